-- An answered ask of a copy, whoever makes it: a call on one key that is set aside, or a call that
-- resizes the map.
use Rattle.std.proofs.Common.{◌≡◌, ℕ, ◌%◌, ◌^◌, ◌+◌, ◌==◌, ◌<◌, ◌≤◌, Bool, List, [], ◌∷◌, ◌++◌}
use Rattle.std.proofs.Common.{length, slice_get, Option, None, Some, inl, inr, ◌⊎◌, refl, sym, ◌∙◌}
use Rattle.std.proofs.Common.{ap, subst, arith, MatchBool, append-nil, eqb-true, length-append}
use Rattle.std.proofs.Math.Nat.{mod-eq_of_lt}
use Rattle.papaya_words.specs.Table.{new_table}
use Rattle.papaya_words.specs.declared.limits.TheConstants.{MAX_TABLES}
use Rattle.papaya_words.specs.declared.refused.Refused.{Refused}
use Rattle.papaya_words.specs.declared.refused.Refused.TheVariants.{Memory}
use Rattle.papaya_call.specs.declared.ask.At.{At}
use Rattle.papaya_call.specs.declared.ask.At.TheVariants.{Root, Next, Aborted, Done, Slot, Made}
use Rattle.papaya_call.specs.declared.ask.StepKind.{StepKind}
use Rattle.papaya_call.specs.declared.ask.Answer.{Answer as Call_answer}
use Rattle.papaya_call.specs.declared.ask.Answer.TheVariants.{Word as Word_read, Exchanged}
use Rattle.papaya_call.specs.declared.ask.Answer.TheVariants.{Found as Found_instead, Yes, Size}
use Rattle.papaya_call.specs.declared.ask.Answer.TheVariants.{Made as Made_number}
use Rattle.papaya_call.specs.declared.ask.Answer.TheVariants.{Refused as Was_refused}
use Rattle.papaya_call.specs.declared.copy_ask.CopyAsk.{CopyAsk}
use Rattle.papaya_call.specs.declared.copy_ask.CopyAsk.TheVariants.{Load, Exchange as Copy_exchange}
use Rattle.papaya_call.specs.declared.copy_ask.CopyAsk.TheVariants.{LoadHint, WriteHint, SizeOf}
use Rattle.papaya_call.specs.declared.copy_ask.CopyAsk.TheVariants.{HashOf, SamePair, Count}
use Rattle.papaya_call.specs.declared.copy_ask.CopyAsk.TheVariants.{MakeTable}
use Rattle.papaya_words_law.specs.Allows.{Allows}
use Rattle.papaya_words_law.specs.Class.{IsOn}
use Rattle.papaya_words_law.specs.Code.{Coding}
use Rattle.papaya_words_law.specs.Exchange.{Exchange, Setting, State, after as state_after, run, start}
use Rattle.papaya_words_law.specs.Grows.{Comes}
use Rattle.papaya_words_law.specs.Invariant.{named}
use Rattle.papaya_words_law.proofs.Logs.{on_comes}
use Rattle.papaya_words_law.proofs.Moments.{run-append}
use Rattle.papaya_call_law.specs.Copier.{AreThere, IsCopyAsked, IsThere, last_after, told_last}
use Rattle.papaya_call_law.specs.TrueAnswers.{IsWritten, or_last, word_of}
use Rattle.papaya_call.specs.declared.chain.ask.Answer.{Answer}
use Rattle.papaya_call.specs.declared.chain.ask.Answer.TheVariants as answers
use Rattle.papaya_call_law.specs.ChainAnswers.{IsTrueOfCopy, LoadedPairs, told_of}
use Rattle.papaya_core_store.specs.CopyAsks.{IsHash, PerformsCopy, hash_in, same_keys}
use Rattle.papaya_core_store.specs.Performs.{Exchanges, MakesTable, Refuses, size_of}
use Rattle.papaya_core_store.specs.Store.{StoreState, Stored, pair_of, stored_in}
use Rattle.papaya_core_store.specs.Tables.{hint_at, note, table_of, word_at, put}
use Rattle.papaya_core_timeline.specs.Kept.{IsMade, chunks_in, slots_in, places_in}
use Rattle.papaya_core_timeline.proofs.KeptAnswer.{Stands}
use Rattle.papaya_core_timeline.proofs.KeptExchange.{IsCopied_on, copies}
use Rattle.papaya_core_timeline.proofs.KeptMade.{refusal}
use Rattle.papaya_core_timeline.proofs.KeptTables.{HasMoreTables, IsPlaced, cases_place, grown-same}
use Rattle.papaya_core_timeline.proofs.KeptTables.{made-grown, made-there, placed-grown, placed-many}
use Rattle.papaya_core_timeline.proofs.KeptTables.{placed-here, placed-other, word-made}
use Rattle.papaya_core_timeline.proofs.StoreLemmas.{matched}
use Rattle.papaya_core_timeline.proofs.KeptHints.{KeepsHints, made-hints, noted-grown, noted-keeps, noted-many, noted-words, placed-hints}
use Rattle.papaya_words_law.specs.Hints.{IsHint}

-- The setting and the coding are those of the store's tables and pairs.
pub record Suits {Q K V S : Type 0} (eq : K → K → Bool) (hashes : S → K → ℕ) (g : Setting Q (Stored K V)) (c : Coding Q (Stored K V))
    (store : StoreState K V S) : Type 0 where
  pub sizes : (t : ℕ) → g.size t ≡ slots_in (table_of store.words.tables t)
  pub places : (t : ℕ) → g.places t ≡ places_in (table_of store.words.tables t)
  pub chunks : (t : ℕ) → g.chunks t ≡ chunks_in (table_of store.words.tables t)
  pub numbers : (p : Stored K V) → c.number p ≡ p.number
  pub hashes_of : (p : Stored K V) → c.hash (g.key p) ≡ hashes store.hasher p.key % 2 ^ 64
  pub sames : (p q : Stored K V) → g.same (g.key p) (g.key q) ≡ eq p.key q.key

module _ {Q K V S : Type 0} (g : Setting Q (Stored K V)) (c : Coding Q (Stored K V)) (store : StoreState K V S) (es : List (Exchange (Stored K V)))
    (loaded : LoadedPairs (Stored K V)) where
  -- the words as the law has them
  abbrev now : State (Stored K V)
  now = run es start

  -- The effect of an answer with this record: every pair and every table is kept, the words are
  -- those that the exchanges leave, and no slot names a pair that no slot named before.
  pub record IsLeft (Tells : List (Exchange (Stored K V)) → LoadedPairs (Stored K V) → Type 0) (a : Answer) (store' : StoreState K V S) : Type 0 where
    pub made : List (Exchange (Stored K V))
    pub loaded' : LoadedPairs (Stored K V)
    pub told : Tells made loaded'
    pub hasher_is : store'.hasher ≡ store.hasher
    pub pairs_are : store'.pairs ≡ store.pairs
    pub sum_is : store'.count.sum ≡ store.count.sum
    pub tables_few : length store.words.tables ≤ MAX_TABLES → length store'.words.tables ≤ MAX_TABLES
    pub grown : HasMoreTables store.words.tables store'.words.tables
    pub coded : (at : At) → word_of g c (run (es ++ made) start) at ≡ word_at store'.words at
    pub hints : KeepsHints g c now store.words store'.words
    pub there : (t : ℕ) → 0 < t → Comes (run (es ++ made) start) t → IsMade store t
    pub slots : (t x : ℕ) (p : Stored K V) → named ((run (es ++ made) start).slot t x) ≡ Some p → Stands now p
    pub last : (p : Stored K V) → loaded'.call.last ≡ Some p → (loaded.call.last ≡ Some p) ⊎ Stands now p
    pub carried : (p : Stored K V) → loaded'.kept ≡ Some p → (loaded.kept ≡ Some p) ⊎ (loaded.call.last ≡ Some p)
    pub same_made : loaded'.call.made ≡ loaded.call.made
    -- a table that was made is there
    pub opens : (t : ℕ) → a ≡ answers.Call (Made_number t) → IsMade store' t

  -- every pair stays in the arena
  pub left_logged : {Tells : List (Exchange (Stored K V)) → LoadedPairs (Stored K V) → Type 0} {a : Answer} {store' : StoreState K V S}
      → IsLeft Tells a store' → (n : ℕ) (p : Stored K V) → pair_of store n ≡ Some p → pair_of store' n ≡ Some p
  left_logged {Tells} {a} {store'} left n p h = ap (λ l. stored_in l n (slice_get l n)) left.pairs_are ∙ h

  module _ (coded : (at : At) → word_of g c now at ≡ word_at store.words at) (there : (t : ℕ) → 0 < t → Comes now t → IsMade store t) where
    -- the words after no exchange
    none_made : run (es ++ []) start ≡ now
    none_made = ap (λ l. run l start) (append-nil es)

    -- an answer that leaves the store as it was
    pub quiet_left : (Tells : List (Exchange (Stored K V)) → LoadedPairs (Stored K V) → Type 0) (a : Answer) (store' : StoreState K V S)
        (loaded' : LoadedPairs (Stored K V)) → store' ≡ store → Tells [] loaded'
        → ((p : Stored K V) → loaded'.call.last ≡ Some p → (loaded.call.last ≡ Some p) ⊎ Stands now p)
        → ((p : Stored K V) → loaded'.kept ≡ Some p → (loaded.kept ≡ Some p) ⊎ (loaded.call.last ≡ Some p))
        → loaded'.call.made ≡ loaded.call.made → ((t : ℕ) → a ≡ answers.Call (Made_number t) → ⊥) → IsLeft Tells a store'
    quiet_left Tells a store' loaded' same told last carried made never = subst (IsLeft Tells a) (sym same) (record {
      made = [];
      loaded' = loaded';
      told = told;
      hasher_is = refl;
      pairs_are = refl;
      sum_is = refl;
      tables_few = λ h. h;
      grown = grown-same store.words.tables;
      coded = λ at. ap (λ z. word_of g c z at) none_made ∙ coded at;
      hints = λ n i. inl refl;
      there = λ t some comes. there t some (subst (λ z. Comes z t) none_made comes);
      slots = λ t x p h. (t, x, ap (λ z. named (z.slot t x)) (sym none_made) ∙ h);
      last = last;
      carried = carried;
      same_made = made;
      opens = λ t is. absurd (never t is);
    })

    -- an exchange that was made
    pub exchanged_left : (Tells : List (Exchange (Stored K V)) → LoadedPairs (Stored K V) → Type 0) (at : At) (new : ℕ) (by : Exchange (Stored K V))
        (loaded' : LoadedPairs (Stored K V)) → Tells (by ∷ []) loaded'
        → IsPlaced store.words.tables at → IsWritten g c now at new (state_after now by)
        → ((t : ℕ) → 0 < t → Comes (state_after now by) t → IsMade store t)
        → ((t x : ℕ) (p : Stored K V) → named ((state_after now by).slot t x) ≡ Some p → Stands now p)
        → ((p : Stored K V) → loaded'.call.last ≡ Some p → (loaded.call.last ≡ Some p) ⊎ Stands now p)
        → loaded'.kept ≡ loaded.kept → loaded'.call.made ≡ loaded.call.made
        → IsLeft Tells (answers.Call Exchanged) (record store { words = put store.words at new })
    exchanged_left Tells at new by loaded' told placed written comes slots last kept made =
        let to : run (es ++ by ∷ []) start ≡ state_after now by = run-append es (by ∷ []) start in
        record {
          made = by ∷ [];
          loaded' = loaded';
          told = told;
          hasher_is = refl;
          pairs_are = refl;
          sum_is = refl;
          tables_few = λ h. let many = placed-many store.words at new placed in omega (arith, many, h);
          grown = placed-grown store.words at new placed;
          coded = λ other. ap (λ z. word_of g c z other) to ∙ written_at other;
          hints = λ n i. inl (placed-hints store.words at new placed n i);
          there = λ t some h. comes t some (subst (λ z. Comes z t) to h);
          slots = λ t y p h. slots t y p (ap (λ z. named (z.slot t y)) (sym to) ∙ h);
          last = last;
          carried = λ p h. inl (sym kept ∙ h);
          same_made = made;
          opens = λ t is. absurd cc;
        }
      where
        written_at : (other : At) → word_of g c (state_after now by) other ≡ word_at (put store.words at new) other
        written_at other = elim (cases_place other at) [
          | inl same ↦ ap (word_of g c (state_after now by)) same ∙ written.here ∙ sym (placed-here store.words at new placed)
              ∙ ap (word_at (put store.words at new)) (sym same)
          | inr differ ↦ written.others other differ ∙ coded other ∙ sym (placed-other store.words at new placed other differ)
        ]

    -- a hint that was written
    noted_left : (Tells : List (Exchange (Stored K V)) → LoadedPairs (Stored K V) → Type 0) (t x n : ℕ) (a : Answer) (store' : StoreState K V S)
        → store' ≡ record store { words = note store.words t x n } → Tells [] loaded → IsHint g c now t x n
        → ((u : ℕ) → a ≡ answers.Call (Made_number u) → ⊥) → IsLeft Tells a store'
    noted_left Tells t x n a store' same told may never = subst (IsLeft Tells a) (sym same) (record {
      made = [];
      loaded' = loaded;
      told = told;
      hasher_is = refl;
      pairs_are = refl;
      sum_is = refl;
      tables_few = λ h. subst (λ l. l ≤ MAX_TABLES) (sym (noted-many store.words t x n)) h;
      grown = noted-grown store.words t x n;
      coded = λ at. ap (λ z. word_of g c z at) none_made ∙ coded at ∙ sym (noted-words store.words t x n at);
      hints = noted-keeps g c now store.words t x n may;
      there = λ u some comes. there u some (subst (λ z. Comes z u) none_made comes);
      slots = λ u y p h. (u, y, ap (λ z. named (z.slot u y)) (sym none_made) ∙ h);
      last = λ p h. inl h;
      carried = λ p h. inl h;
      same_made = refl;
      opens = λ u is. absurd (never u is);
    })

    -- a table that was made, or refused
    pub table_left : (Tells : List (Exchange (Stored K V)) → LoadedPairs (Stored K V) → Type 0) (slots limit chunks : ℕ) (a : Call_answer)
        (store' : StoreState K V S) → Tells [] loaded → (Refuses MAX_TABLES (length store.words.tables) a × (store' ≡ store))
        ⊎ MakesTable a slots limit chunks store store' → IsLeft Tells (answers.Call a) store'
    table_left Tells slots limit chunks a store' told (inl (refuses, same)) =
        let no = refusal _ _ a refuses in
        quiet_left Tells (answers.Call a) store' loaded same told (λ p h. inl h) (λ p h. inl h) refl
        (λ t is. let f : answers.Call (Was_refused no.0) ≡ answers.Call (Made_number t) = sym (ap answers.Call no.1) ∙ is in absurd cc)
    table_left Tells slots limit chunks a store' told (inr (is, few, grown)) =
        let n : ℕ = length store.words.tables + 1 in
        let wider : StoreState K V S = record store { words = record store.words { tables = store.words.tables ++ new_table n slots limit chunks ∷ [] } } in
        subst (IsLeft Tells (answers.Call a)) (sym grown) (record {
          made = [];
          loaded' = loaded;
          told = told;
          hasher_is = refl;
          pairs_are = refl;
          sum_is = refl;
          tables_few = λ h. let more : length (store.words.tables ++ new_table n slots limit chunks ∷ []) ≡ length store.words.tables +
              1 = length-append store.words.tables (new_table n slots limit chunks ∷ []) in omega (arith, more, few);
          grown = made-grown store.words n slots limit chunks;
          coded = λ at. ap (λ z. word_of g c z at) none_made ∙ coded at ∙ sym (word-made store.words n slots limit chunks at);
          hints = λ m i. inl (made-hints store.words n slots limit chunks m i);
          there = λ t some comes. there t some (subst (λ z. Comes z t) none_made comes);
          slots = λ t x p h. (t, x, ap (λ z. named (z.slot t x)) (sym none_made) ∙ h);
          last = λ p h. inl h;
          carried = λ p h. inl h;
          same_made = refl;
          opens = λ t is'. let f : answers.Call (Made_number n) ≡ answers.Call (Made_number t) = sym (ap answers.Call is) ∙ is' in
              let e : n ≡ t = cc in (
                new_table n slots limit chunks,
                subst (λ y. table_of wider.words.tables y ≡ Some (new_table n slots limit chunks))
                    e (made-there store.words n slots limit chunks),
              );
        })

    -- the pair that the word at a place names
    named_last : (t x : ℕ) (p : Stored K V) (o : Option (Stored K V)) → named (now.slot t x) ≡ o → or_last o loaded.call.last ≡ Some p
        → (loaded.call.last ≡ Some p) ⊎ Stands now p
    named_last t x p None e h = inl h
    named_last t x p (Some q) e h = inr (t, x, e ∙ h)

    -- the last pair that a copy loaded was in the slot that was loaded, or had been loaded before
    told_stood : (at : At) (p : Stored K V) → told_last now at loaded.call.last ≡ Some p → (loaded.call.last ≡ Some p) ⊎ Stands now p
    told_stood Root p h = inl h
    told_stood (Next t) p h = inl h
    told_stood (Aborted t) p h = inl h
    told_stood Made p h = inl h
    told_stood (Done t chunk) p h = inl h
    told_stood (Slot t x) p h = named_last t x p (named (now.slot t x)) refl h

    -- The machine that asks for this names what is there, and may make the exchange. The table that
    -- it follows and the one that it links are there. A hint that it reads or writes is one that
    -- may be there.
    pub record IsAsker (kind : Option StepKind) (follows : ℕ) (ask : CopyAsk) : Type 0 where
      pub names : AreThere g c now loaded.call.last loaded.kept ask
      pub may : (at : At) (old new : ℕ) → ask ≡ Copy_exchange at old new → word_of g c now at ≡ old → (e : Exchange (Stored K V))
          × IsCopyAsked c kind at new now loaded.kept e × Allows g now e × IsWritten g c now at new (state_after now e)
      pub low : (slots limit chunks : ℕ) → ask ≡ MakeTable slots limit chunks → follows ≤ length store.words.tables
      pub links : (behind old t : ℕ) → ask ≡ Copy_exchange (Next behind) old t → IsMade store t
      pub reads : (t x : ℕ) → ask ≡ LoadHint t x → IsHint g c now t x (hint_at store.words t x)
      pub writes : (t x n : ℕ) → ask ≡ WriteHint t x n → IsHint g c now t x n

    module _ (eq : K → K → Bool) (hashes : S → K → ℕ) (last : (p : Stored K V) → loaded.call.last ≡ Some p → pair_of store p.number ≡ Some p)
        (carried : (p : Stored K V) → loaded.kept ≡ Some p → pair_of store p.number ≡ Some p) (suits : Suits eq hashes g c store)
        (kind : Option StepKind) (follows : ℕ) where
      -- the record for the machine that asks
      abbrev pub Hears : CopyAsk → Answer → List (Exchange (Stored K V)) → LoadedPairs (Stored K V) → Type 0
      Hears ask a made loaded' = IsTrueOfCopy g c now kind follows loaded ask a made loaded'

      -- a table of the chain was made
      on_there : (t : ℕ) → IsOn now.first now.next t → IsMade store t
      on_there t on = there t on.0 (on_comes now t on)

      -- a word that is named is there
      pub placed : (at : At) → IsThere g c now loaded.call.last loaded.kept at → IsPlaced store.words.tables at
      placed Root h = tt
      placed (Next t) on = on_there t on
      placed (Aborted t) on = on_there t on
      placed Made h = absurd h
      placed (Done t chunk) h = let words = on_there t h.0 in (words.0, words.1, subst (λ n. chunk < n) (suits.chunks t ∙ ap chunks_in words.1) h.1)
      placed (Slot t x) h = let words = on_there t h.0 in (words.0, words.1, subst (λ n. x < n) (suits.sizes t ∙ ap slots_in words.1) h.1)

      -- an exchange, made or lost
      exchanged : (at : At) (old new : ℕ) → IsAsker kind follows (Copy_exchange at old new) → (a : Call_answer) (store' : StoreState K V S)
          → Exchanges (word_at store.words at) old (put store.words at new) a store store'
          → IsLeft (Hears (Copy_exchange at old new) (answers.Call a)) (answers.Call a) store'
      exchanged at old new asker a store' h =
          matched (IsLeft (Hears (Copy_exchange at old new) (answers.Call a)) (answers.Call a) store') (word_at store.words at == old) _ _ h
          (λ hit done.
          let x = asker.may at old new refl (coded at ∙ eqb-true (word_at store.words at) old hit) in
          let on : IsCopied_on now loaded.call.last new at x.0 = copies now loaded.call.last new g c loaded.kept kind at x.0 x.1 x.2 in
          let loaded' : LoadedPairs (Stored K V) = told_of (last_after x.0 loaded.call.last) loaded in
          let told : Hears (Copy_exchange at old new) (answers.Call Exchanged) (x.0 ∷ []) loaded' =
          subst (λ b. MatchBool b
          ((answers.Call Exchanged ≡ answers.Call Exchanged)
          × ((y : Exchange (Stored K V)) × IsCopyAsked c kind at new now loaded.kept y × (x.0 ∷ [] ≡ y ∷ [])
          × (loaded' ≡ told_of (last_after y loaded.call.last) loaded)))
          ((answers.Call Exchanged ≡ answers.Call (Found_instead (word_of g c now at))) × (x.0 ∷ [] ≡ [])
          × (loaded' ≡ told_of (told_last now at loaded.call.last) loaded)))
          (sym (ap (λ y. y == old) (coded at) ∙ hit)) (refl, (x.0, x.1, refl, refl)) in
          subst (λ y. IsLeft (Hears (Copy_exchange at old new) (answers.Call y)) (answers.Call y) store') (sym done.0)
          (subst (IsLeft (Hears (Copy_exchange at old new) (answers.Call Exchanged)) (answers.Call Exchanged)) (sym done.1)
          (exchanged_left (Hears (Copy_exchange at old new) (answers.Call Exchanged)) at new x.0 loaded' told (placed at asker.names) x.3
          (λ t some comes. elim (on.comes t comes) [
            | inl before ↦ there t some before
            | inr (u, next, same_table) ↦ asker.links u old t (ap (λ y. Copy_exchange y old new) next ∙ ap (λ y. Copy_exchange (Next u) old y) same_table)
          ])
          on.slots on.last_is refl refl)))
          (λ miss lost.
          let loaded' : LoadedPairs (Stored K V) = told_of (told_last now at loaded.call.last) loaded in
          let nothing : List (Exchange (Stored K V)) = [] in
          let is : answers.Call a ≡ answers.Call (Found_instead (word_of g c now at)) = ap answers.Call (lost.0 ∙ ap Found_instead (sym (coded at))) in
          quiet_left (Hears (Copy_exchange at old new) (answers.Call a)) (answers.Call a) store' loaded' lost.1
          (subst (λ b. MatchBool b
          ((answers.Call a ≡ answers.Call Exchanged)
          × ((y : Exchange (Stored K V)) × IsCopyAsked c kind at new now loaded.kept y × (nothing ≡ y ∷ [])
          × (loaded' ≡ told_of (last_after y loaded.call.last) loaded)))
          ((answers.Call a ≡ answers.Call (Found_instead (word_of g c now at))) × (nothing ≡ nothing) × (loaded' ≡ loaded')))
          (sym (ap (λ y. y == old) (coded at) ∙ miss)) (is, refl, refl))
          (told_stood at) (λ p h. inl h) refl (λ t made. let f = sym (ap answers.Call lost.0) ∙ made in absurd cc))

      -- a table was made, with a greater number than the one that it is to follow, or none
      table_told : (slots limit chunks : ℕ) → IsAsker kind follows (MakeTable slots limit chunks) → (a : Call_answer) (store' : StoreState K V S)
          → (Refuses MAX_TABLES (length store.words.tables) a × (store' ≡ store)) ⊎ MakesTable a slots limit chunks store store'
          → ((refused : Refused) × (answers.Call a ≡ answers.Call (Was_refused refused)))
          ⊎ ((n : ℕ) × (follows < n) × (answers.Call a ≡ answers.Call (Made_number n)))
      table_told slots limit chunks asker a store' (inl (refuses, same_store)) = let no = refusal _ _ a refuses in inl (no.0, ap answers.Call no.1)
      table_told slots limit chunks asker a store' (inr (is, few, grown)) = let low = asker.low slots limit chunks refl in
          inr (length store.words.tables + 1, omega (arith, low), ap answers.Call is)

      -- each ask
      pub copied_left : (refuse : Bool) (ask : CopyAsk) → IsAsker kind follows ask → (a : Answer) (store' : StoreState K V S)
          → PerformsCopy eq hashes refuse ask store a store' → IsLeft (Hears ask a) a store'
      copied_left refuse (Load at) asker a store' (is, same) =
          quiet_left (Hears (Load at) a) a store' (told_of (told_last now at loaded.call.last) loaded) same
          (is ∙ ap (λ y. answers.Call (Word_read y)) (sym (coded at)), refl, refl)
          (told_stood at) (λ p h. inl h) refl (λ t made. let f = sym is ∙ made in absurd cc)
      copied_left refuse (Copy_exchange at old new) asker a store' (told, is, h) =
          subst (λ y. IsLeft (Hears (Copy_exchange at old new) y) y store') (sym is) (exchanged at old new asker told store' h)
      copied_left refuse (LoadHint t x) asker a store' (is, same) =
          quiet_left (Hears (LoadHint t x) a) a store' loaded same
          ((hint_at store.words t x, asker.reads t x refl, is), (refl, refl))
          (λ p h. inl h) (λ p h. inl h) refl (λ u made. let f = sym is ∙ made in absurd cc)
      copied_left refuse (WriteHint t x n) asker a store' (is, same) =
          noted_left (Hears (WriteHint t x n) a) t x n a store' same (is, (refl, refl)) (asker.writes t x n refl) (λ u made. let f = sym is ∙ made in absurd cc)
      copied_left refuse (SizeOf n) asker a store' (is, same) =
          let words = on_there n asker.names in
          let size : a ≡ answers.Call (Size (g.size n) words.0.limit) = is ∙ ap (λ o. answers.Call (size_of o)) words.1
          ∙ ap (λ y. answers.Call (Size y words.0.limit)) (sym (suits.sizes n ∙ ap slots_in words.1)) in
          quiet_left (Hears (SizeOf n) a) a store' loaded same
          ((words.0.limit, sym (suits.places n ∙ ap places_in words.1), size), (refl, refl))
          (λ p h. inl h) (λ p h. inl h) refl (λ t made. let f = sym size ∙ made in absurd cc)
      copied_left refuse (HashOf n) asker a store' (is, fits, same) =
          quiet_left (Hears (HashOf n) a) a store' (record loaded { kept = loaded.call.last }) same (
            λ p l number.
                let there_is : pair_of store n ≡ Some p = subst (λ m. pair_of store m ≡ Some p) (sym (suits.numbers p) ∙ number) (last p l) in
                let told : a ≡ answers.Hash (hashes store.hasher p.key) = is ∙ ap (hash_in (hashes store.hasher)) there_is in
                told ∙ ap answers.Hash (sym (suits.hashes_of p ∙ mod-eq_of_lt (subst IsHash told fits))),
            refl,
            refl,
          )
          (λ p h. inl h) (λ p h. inr h) refl (λ t made. by_pair (pair_of store n) t (sym is ∙ made))
        where
          by_pair : (o : Option (Stored K V)) (t : ℕ) → hash_in (hashes store.hasher) o ≡ answers.Call (Made_number t) → ⊥
          by_pair None t e = absurd cc
          by_pair (Some p) t e = absurd cc
      copied_left refuse (SamePair m n) asker a store' (is, same) =
          quiet_left (Hears (SamePair m n) a) a store' loaded same (
            (λ p q l number_p k number_q.
                let first : pair_of store m ≡ Some p = subst (λ i. pair_of store i ≡ Some p) (sym (suits.numbers p) ∙ number_p) (carried p l) in
                let second : pair_of store n ≡ Some q = subst (λ i. pair_of store i ≡ Some q) (sym (suits.numbers q) ∙ number_q) (last q k) in
                is ∙ ap (λ o. answers.Call (Yes (same_keys eq o (pair_of store n)))) first
                ∙ ap (λ o. answers.Call (Yes (same_keys eq (Some p) o))) second ∙ ap (λ y. answers.Call (Yes y)) (sym (suits.sames p q))),
            (refl, refl),
          )
          (λ p h. inl h) (λ p h. inl h) refl (λ t made. let f = sym is ∙ made in absurd cc)
      copied_left refuse Count asker a store' (is, same) =
          quiet_left (Hears Count a) a store' loaded same ((_, is), (refl, refl)) (λ p h. inl h) (λ p h. inl h) refl
          (λ t made. let f = sym is ∙ made in absurd cc)
      copied_left refuse (MakeTable slots limit chunks) asker a store' (told, is, h) =
          subst (λ y. IsLeft (Hears (MakeTable slots limit chunks) y) y store') (sym is)
          (matched (IsLeft (Hears (MakeTable slots limit chunks) (answers.Call told)) (answers.Call told) store') refuse _ _ h
          (λ _ none. quiet_left (Hears (MakeTable slots limit chunks) (answers.Call told)) (answers.Call told) store' loaded none.1
          (inl (Memory, ap answers.Call none.0), (refl, refl)) (λ p h. inl h) (λ p h. inl h) refl
          (λ t made. let f : answers.Call (Was_refused Memory) ≡ answers.Call (Made_number t) = sym (ap answers.Call none.0) ∙ made in absurd cc))
          (λ _ makes. table_left (Hears (MakeTable slots limit chunks) (answers.Call told)) slots limit chunks told store'
          (table_told slots limit chunks asker told store' makes, (refl, refl)) makes))
