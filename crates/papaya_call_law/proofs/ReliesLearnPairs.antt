-- A call that makes a pair: its number, its key and its value, and the pair itself.
use Rattle.std.proofs.Common.{◌≡◌, inl, inr, ⊎_elim, ℕ, ◌<◌, ◌==◌, nat_lt, ltb-true, eq-eqb, Bool}
use Rattle.std.proofs.Common.{true, false, cond, MatchBool, MatchOption, Option, None, Some, List}
use Rattle.std.proofs.Common.{◌∷◌, ◌++◌, refl, sym, ap, ◌∙◌, subst}
use Rattle.std.proofs.lemmas.Bool.{cond_both}
use Rattle.papaya_words.specs.Word.{pair_of}
use Rattle.papaya_call.specs.declared.call.Task.{Task}
use Rattle.papaya_call.specs.declared.call.Task.TheVariants.{Get, Insert, RemoveIf, Compute}
use Rattle.papaya_call.specs.declared.compute.Remembered.{Remembered}
use Rattle.papaya_call.specs.declared.made.Grown.{Grown}
use Rattle.papaya_call.specs.declared.made.Made.{Made}
use Rattle.papaya_call.specs.declared.made.Number.{Number}
use Rattle.papaya_call.specs.declared.made.Number.TheVariants.{Wanted, Free, Taken}
use Rattle.papaya_call.specs.declared.remove.Removal.{Removal}
use Rattle.papaya_call.specs.declared.write.Write.{Write}
use Rattle.papaya_call.specs.Made.{grown, grown_as, of_grown, own_grown, paired, taken, taken_as, told, told_as, told_limit, wanted}
use Rattle.papaya_call.specs.Write.{made_of, with_pair_at}
use Rattle.papaya_words_law.specs.Exchange.{Setting, State, Exchange, run, start}
use Rattle.papaya_words_law.specs.Code.{Coding, IsHashed}
use Rattle.papaya_words_law.specs.Later.{IsOfKey}
use Rattle.papaya_words_law.proofs.Codes.{code_pair}
use Rattle.papaya_words_law.proofs.Kept.{becomes_keeps}
use Rattle.papaya_call_law.specs.TrueAnswers.{IsOfLast, LoadedPairs}
use Rattle.papaya_call_law.specs.Relies.{IsPairAt, MayRemove, MayWrite, ReliesLoaded, ReliesNumber, ReliesWriting}
use Rattle.papaya_call_law.proofs.ReliesLearnLoaded.{at_newest, loaded_more, loaded_number, loaded_of, loaded_own, own_newest}

-- the part that was stored in the arena, by the number and by the parts that are stored there
-- already
abbrev pub grown_by : Bool → (keyed valued : Bool) → Made → Grown
grown_by true keyed valued made = own_grown keyed valued made
grown_by false keyed valued made = of_grown valued made

pub grown_is : (made : Made) (old : ℕ) (b keyed valued : Bool) → made.number ≡ Taken → (old == 0) ≡ b → made.keyed ≡ keyed → made.valued ≡ valued
    → grown made old ≡ grown_by b keyed valued made
grown_is made old true keyed valued n b k v =
    ap (λ y. grown_as y made old) n ∙ ap (λ y. cond y (own_grown made.keyed made.valued made) (of_grown made.valued made)) b
    ∙ ap (λ y. own_grown y made.valued made) k ∙ ap (λ y. own_grown keyed y made) v
grown_is made old false keyed valued n b k v =
    ap (λ y. grown_as y made old) n ∙ ap (λ y. cond y (own_grown made.keyed made.valued made) (of_grown made.valued made)) b ∙ ap (λ y. of_grown y made) v

module _ {K P : Type 0} (g : Setting K P) (c : Coding K P) (begun since : List (Exchange P)) (k : K) where
  -- a number that is yet to be taken is not free
  pub wanted_relies : (limit : Option ℕ) → ReliesNumber g c begun since k (wanted limit)
  wanted_relies None = tt
  wanted_relies (Some most) = tt

  module _ (loaded : LoadedPairs P) (made : Made) (held : Remembered) (r : ReliesLoaded g c begun since k loaded made held) where
    -- `count` numbers were taken
    abbrev pub ReliesTold : Option Made → Type 0
    ReliesTold None = Unit {0}
    ReliesTold (Some next) = ReliesLoaded g c begun since k loaded next held

    limit_relies : (limit : Option ℕ) → made.limit ≡ limit → (count : ℕ) → ReliesTold (told_limit made limit count)
    limit_relies None is count = loaded_number g c begun since k loaded made held r Taken tt
    limit_relies (Some most) is count =
        cond_both (nat_lt count most) (Some (record made { number = Free count })) None ReliesTold
        (λ less.
        let free : MatchOption (Some most) (Unit {0}) (λ n. count < n) = ltb-true count most less in
        loaded_number g c begun since k loaded made held r (Free count) (subst (λ o. MatchOption o (Unit {0}) (λ n. count < n)) (sym is ∙ r.limit) free))
        (λ more. tt)

    told_by : (number : Number) (count : ℕ) → ReliesTold (told_as made number count)
    told_by Taken count = r
    told_by Wanted count = limit_relies made.limit refl count
    told_by (Free n) count = limit_relies made.limit refl count

    pub told_relies : (count : ℕ) → ReliesTold (told made count)
    told_relies count = told_by made.number count

    -- the number was taken
    taken_by : (number : Number) → ReliesLoaded g c begun since k loaded (taken_as made number) held
    taken_by Taken = r
    taken_by Wanted = r
    taken_by (Free n) = loaded_number g c begun since k loaded made held r Taken tt

    pub taken_relies : ReliesLoaded g c begun since k loaded (taken made) held
    taken_relies = taken_by made.number

    -- the pair was made
    pub paired_relies : ReliesLoaded g c begun since k loaded (paired made) held
    paired_relies = loaded_number g c begun since k loaded made held r (wanted made.limit) (wanted_relies made.limit)

module _ {K P : Type 0} (g : Setting K P) (c : Coding K P) (hashed : IsHashed g c) (begun since : List (Exchange P)) (k : K) where
  -- the state after all exchanges
  abbrev now : State P
  now = run (begun ++ since) start

  -- a pair that is made in place of a word has the call's key if the word is empty, and otherwise
  -- that of the pair which it names
  abbrev pub IsNewFor : LoadedPairs P → ℕ → P → Type 0
  IsNewFor loaded old q = MatchBool (old == 0) (g.key q ≡ k) (IsOfLast g c k loaded (pair_of old) q)

  module _ (loaded : LoadedPairs P) (removal : Removal) (r : MayRemove g c begun since k loaded removal) where
    -- the number that a word names is that of the pair last loaded
    pub removal_number : c.number r.pair ≡ pair_of removal.word
    removal_number = sym (ap pair_of r.met.as_loaded ∙ (code_pair g c hashed.coding r.met.was r.pair r.met.names))

    -- its key is still in the slot
    pub removal_key : IsOfKey g (now.slot removal.place.table removal.place.probe.i) (g.key r.pair)
    removal_key = becomes_keeps g r.met.was (now.slot removal.place.table removal.place.probe.i) (g.key r.pair) r.met.became (r.pair, r.met.names, refl)

    module _ (q : P) (new : IsOfLast g c k loaded (pair_of removal.word) q) where
      kept : g.key q ≡ g.key r.pair
      kept = new r.pair r.last removal_number

      -- so a pair of that key has a key equal to the call's, and may be used in the slot
      pub new_same : g.same k (g.key q) ≡ true
      new_same = subst (λ l. g.same k l ≡ true) (sym kept) r.same

      pub new_at : IsPairAt g c begun since k (record loaded { made = q ∷ loaded.made }) (c.number q) removal.place.table removal.place.probe.i
      new_at = at_newest g c begun since k loaded q removal.place.table removal.place.probe.i
          (subst (IsOfKey g (now.slot removal.place.table removal.place.probe.i)) (sym kept) removal_key)

  -- a pair of the call's own key has an equal key
  pub own_same : (q : P) → g.key q ≡ k → g.same k (g.key q) ≡ true
  own_same q mine = subst (λ l. g.same k l ≡ true) (sym mine) (hashed.lawful.itself k)

  module _ (loaded : LoadedPairs P) (replace : Bool) (write : Write) (w : MayWrite g c begun since k loaded replace write) (q : P) where
    -- the newest pair of an insertion, in place of nothing or of a pair
    pub write_same : IsNewFor loaded write.old q → g.same k (g.key q) ≡ true
    write_same new = by_old (write.old == 0) refl new
      where
        by_old : (b : Bool) → (write.old == 0) ≡ b → MatchBool b (g.key q ≡ k) (IsOfLast g c k loaded (pair_of write.old) q) → g.same k (g.key q) ≡ true
        by_old true e h = own_same q h
        by_old false e h =
            ⊎_elim
            (λ none. absurd (let some = eq-eqb write.old 0 none in cc (some, e)))
            (λ o. new_same loaded (record { place = write.place; word = write.old }) o.1 q h)
            w.old

    -- it may be used there
    pub write_paired : (made : Made) (held : Remembered) → ReliesLoaded g c begun since k loaded made held → IsNewFor loaded write.old q
        → ReliesLoaded g c begun since k (record loaded { made = q ∷ loaded.made }) (with_pair_at made write (c.number q)) held
    write_paired made held r new =
        let told : LoadedPairs P = record loaded { made = q ∷ loaded.made } in
        let more = loaded_more g c begun since k loaded made held r q (write_same new) in
        cond_both (write.old == 0) (record made { own = Some (c.number q) }) (record made { of = Some (made_of write (c.number q)) })
        (λ m. ReliesLoaded g c begun since k told m held)
        (λ e. loaded_own g c begun since k told made held more (c.number q)
        (own_newest g c begun since k loaded q (subst (λ b. MatchBool b (g.key q ≡ k) (IsOfLast g c k loaded (pair_of write.old) q)) e new)))
        (λ e.
        let of_last : IsOfLast g c k loaded (pair_of write.old)
        q = subst (λ b. MatchBool b (g.key q ≡ k) (IsOfLast g c k loaded (pair_of write.old) q)) e new in
        ⊎_elim
        (λ none. absurd (let some = eq-eqb write.old 0 none in cc (some, e)))
        (λ o. loaded_of g c begun since k told made held more (made_of write (c.number q))
        (new_at loaded (record { place = write.place; word = write.old }) o.1 q of_last))
        w.old)

  module _ (loaded : LoadedPairs P) (q : P) where
    -- one more pair of the call's
    abbrev pub more_loaded : LoadedPairs P
    more_loaded = record loaded { made = q ∷ loaded.made }

    -- a pair that the closure was called with stays so
    pub removal_more : (removal : Removal) → MayRemove g c begun since k loaded removal → MayRemove g c begun since k more_loaded removal
    removal_more removal r = record { pair = r.pair; last = r.last; met = r.met; live = r.live; same = r.same }

    -- and so does the word that a write replaces
    pub write_more : (replace : Bool) (write : Write) → MayWrite g c begun since k loaded replace write → MayWrite g c begun since k more_loaded replace write
    write_more replace write r = record {
      stands = r.stands;
      old =
          ⊎_elim (λ e. inl e) (λ o. inr (o.0, removal_more (record { place = write.place; word = write.old }) o.1)) r.old;
    }

    pub writing_more : (task : Task) (write : Write) → ReliesWriting g c begun since k loaded task write
        → ReliesWriting g c begun since k more_loaded task write
    writing_more Get write r = r
    writing_more (Insert replace) write r = write_more replace write r
    writing_more RemoveIf write r = r
    writing_more Compute write r = r

    -- the newest pair of an insertion may be used where it writes
    pub writing_paired : (made : Made) (held : Remembered) → ReliesLoaded g c begun since k loaded made held → (task : Task) (write : Write)
        → ReliesWriting g c begun since k loaded task write → IsNewFor loaded write.old q
        → ReliesLoaded g c begun since k more_loaded (with_pair_at made write (c.number q)) held
    writing_paired made held r Get write w new = absurd w
    writing_paired made held r (Insert replace) write w new = write_paired loaded replace write w q made held r new
    writing_paired made held r RemoveIf write w new = absurd w
    writing_paired made held r Compute write w new = absurd w
