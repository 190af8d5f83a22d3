-- The asks of a copy may be answered, and the results of its exchanges.
use Rattle.std.proofs.Common.{◌≡◌, inl, inr, ℕ, ◌+◌, ◌<◌, ◌==◌, Bool, true, false, MatchBool, Option, None, Some, List, [], ◌∷◌, ◌++◌, length}
use Rattle.std.proofs.Common.{refl, sym, ap, ◌∙◌, subst}
use mathlib.Core.List.{IsPrefix}
use Rattle.boxcar.specs.Table.{Where}
use Rattle.logbook.specs.Pages.{Book, may_write, nib}
use Rattle.logbook.specs.declared.tokens.Pen.{Pen}
use Rattle.papaya_call.specs.declared.ask.At.{At}
use Rattle.papaya_call.specs.declared.ask.At.TheVariants.{Root, Next, Aborted, Done, Slot, Made as Made_word}
use Rattle.papaya_call.specs.declared.ask.StepKind.{StepKind}
use Rattle.papaya_call.specs.declared.ask.StepKind.TheVariants as kinds
use Rattle.papaya_map_book.specs.declared.rule.entry.Begun.{Begun}
use Rattle.papaya_call.specs.declared.chain.ask.Answer.{Answer}
use Rattle.papaya_words_law.specs.Exchange.{Exchange, State}
use Rattle.papaya_map_book.specs.declared.rule.entry.Event.{Event}
use Rattle.papaya_map_book.specs.declared.rule.entry.Event.TheVariants.{Stepped}
use Rattle.papaya_map_book.specs.declared.rule.entry.Step.{Step}
use Rattle.papaya_map_book.specs.declared.rule.entry.Named.{Named}
use Rattle.papaya_map_book.specs.declared.rule.entry.Named.TheVariants as names
use Rattle.papaya_map_book.specs.Calls.{IsTable, IsTried}
use Rattle.papaya_map_book.specs.Logs.{Stored, comes, exchange_of, number_of, state_of, steps_of, table_in}
use Rattle.papaya_map_book.specs.Plays.{IsWished}
use Rattle.papaya_map_book.specs.Makers.{IsMade}
use Rattle.papaya_map_book.specs.Rule.{IsPlaced}
use Rattle.papaya_map_book.specs.Sheets.{Sheet}
use Rattle.papaya_map_book.proofs.Loaded.{table_since}
use Rattle.papaya_map_book.proofs.Logs.{prefix_trans}
use Rattle.papaya_map_change.specs.Changing.{IsFresh}
use Rattle.papaya_map_change.specs.declared.copier.Copier.{Copier}
use Rattle.papaya_map_change.specs.Copier.{AnswersExchange, CanJoin, HasTried, IsHandLeft, IsReached, marked_or, tried_answer}
use Rattle.papaya_map_change.specs.Helping.{IsOwnTable, IsTriedFor}
use Rattle.papaya_map_change.proofs.HelpingExchanges.{tried_link}
use Rattle.papaya_map_change.proofs.HelpingPlaces.{one_table}

-- a place that was reached is in its table, later too
pub reached_low : {K V S : Type 0} (log log' : List (Event K V S)) → IsPrefix log log' → (at : At) (t x : ℕ) → at ≡ Slot t x → IsReached log at
    → (sheet : Sheet) → IsTable log' t sheet → x < length sheet.slots
reached_low {K} {V} {S} log log' pre at t x e reached sheet now =
    let there : (w : Where Sheet) × (table_in (steps_of log) t ≡ Some w) × (x < length w.value.slots) = subst (IsReached log) e reached in
    let here : IsTable log' t there.0.value = table_since log log' t there.0.value pre (there.0, there.1, refl) in
    let same : there.0.value ≡ sheet = one_table log' t there.0.value sheet here now in
    subst (λ (z : Sheet). x < length z.slots) same there.2

-- and a chunk's word is one of its table's
pub reached_word : {K V S : Type 0} (log log' : List (Event K V S)) → IsPrefix log log' → (at : At) (t i : ℕ) → at ≡ Done t i → IsReached log at
    → (sheet : Sheet) → IsTable log' t sheet → i < length sheet.done
reached_word {K} {V} {S} log log' pre at t i e reached sheet now =
    let there : (w : Where Sheet) × (table_in (steps_of log) t ≡ Some w) × (i < length w.value.done) = subst (IsReached log) e reached in
    let here : IsTable log' t there.0.value = table_since log log' t there.0.value pre (there.0, there.1, refl) in
    let same : there.0.value ≡ sheet = one_table log' t there.0.value sheet here now in
    subst (λ (z : Sheet). i < length z.done) same there.2

module _ {K V S : Type 0} (b : Begun K V S) (name : Book) (log : List (Event K V S)) (n : ℕ) (fresh : Option (Where Sheet × Pen))
    (table : Where Sheet) (seal : Pen) (is : fresh ≡ Some (table, seal)) (f : IsFresh b name log n fresh) where
  -- the table at hand is this one, with this seal
  pub record IsReady : Type 0 where
    pub number_is : number_of table ≡ n
    pub made : IsMade table.value log
    pub placed : IsPlaced b (Some name) (names.Table table)
    pub seal_book : seal.book ≡ name
    pub seal_nib : seal.nib ≡ nib may_write table.value.seal 0

  pub ready : IsReady
  ready =
      let pairs : Some (f.table, f.seal) ≡ Some (table, seal) = sym f.is ∙ is in
      let both : (f.table, f.seal) ≡ (table, seal) = cc pairs in record {
        number_is = ap (λ (z : Where Sheet × Pen). number_of z.0) (sym both) ∙ f.number_is;
        made = subst (λ (z : Where Sheet × Pen). IsMade z.0.value log) both f.made;
        placed = subst (λ (z : Where Sheet × Pen). IsPlaced b (Some name) (names.Table z.0)) both f.placed;
        seal_book = ap (λ (z : Where Sheet × Pen). z.1.book) (sym both) ∙ f.seal_book;
        seal_nib = subst (λ (z : Where Sheet × Pen). z.1.nib ≡ nib may_write z.0.value.seal 0) both f.seal_nib;
      }

  -- there was an attempt to link it
  pub joined : (eq : K → K → Bool) (hash : S → K → ℕ) (seen : List (Event K V S)) → IsPrefix log seen
      → (t : ℕ) (kept : Option (Stored K V)) (found : ℕ) (log' : List (Event K V S)) (state : Option (Named K V))
      → IsTried eq hash b (Next t) (Some kinds.Link) 0 (table.index + 1) None (names.Table table) seen found log' state
      → IsTriedFor eq hash b name (Next t) (Some kinds.Link) 0 n kept fresh log found log' None
  joined eq hash seen pre t kept found log' state
      tried = subst (λ (i : ℕ). IsTriedFor eq hash b name (Next t) (Some kinds.Link) 0 i kept fresh log found log' None) ready.number_is
      (tried_link eq hash b name log seen pre t (table.index + 1) kept fresh table seal is found log' state tried)

both_hold : (z : Bool) (A B : Type 0) → A → B → MatchBool z A B
both_hold true A B a b = a
both_hold false A B a b = b

module _ {K V S H : Type 0} (eq : K → K → Bool) (hash : S → K → ℕ) (b : Begun K V S) (name : Book) (t new old : ℕ) (kind : Option StepKind)
    (log log' : List (Event K V S)) (h h' : Copier K V S H) (found : ℕ) where
  -- an attempt to link is an attempt to exchange
  pub linked : CanJoin eq hash b name t new log h → kind ≡ Some kinds.Link → old ≡ 0
      → IsTriedFor eq hash b name (Next t) (Some kinds.Link) 0 new h.kept h.fresh log found log' None → h'.last ≡ h.last
      → HasTried eq hash b name (Next t) kind (old, new) h.kept h.fresh log h.last found log' h'.last
  linked can is none tried same = record {
    pair = None;
    tried = subst (λ (o : Option StepKind). IsTriedFor eq hash b name (Next t) o old new h.kept h.fresh log found log' None) (sym is)
        (subst (λ (n : ℕ). IsTriedFor eq hash b name (Next t) (Some kinds.Link) n new h.kept h.fresh log found log' None) (sym none) tried);
    last_is = both_hold (found == old) (h'.last ≡ marked_or kind None h.last) (h'.last ≡ h.last)
        (same ∙ sym (ap (λ (o : Option StepKind). marked_or o None h.last) is)) same;
  }

module _ {K V : Type 0} (new : ℕ) (s : State (Stored K V)) (kept : Option (Stored K V)) (e : Exchange (Stored K V)) where
  not_marked : (at : At) → ((t x : ℕ) → at ≡ Slot t x → ⊥) → IsWished (Some kinds.Mark) at new s kept e → ⊥
  not_marked Root other (inl a) = a
  not_marked Root other (inr a) = a
  not_marked (Next t) other (inl a) = a
  not_marked (Next t) other (inr a) = a
  not_marked (Aborted t) other (inl a) = a
  not_marked (Aborted t) other (inr a) = a
  not_marked (Done t i) other (inl a) = a
  not_marked (Done t i) other (inr a) = a
  not_marked Made_word other (inl a) = a
  not_marked Made_word other (inr a) = a
  not_marked (Slot t x) other a = other t x refl

  -- no word but a slot's is marked
  unmarked : (at : At) → ((t x : ℕ) → at ≡ Slot t x → ⊥) → (kind : Option StepKind) (last : Option (Stored K V)) → IsWished kind at new s kept e
      → last ≡ marked_or kind None last
  unmarked at other (Some kinds.Mark) last a = absurd (not_marked at other a)
  unmarked at other kind last a = refl

module _ {K V S H : Type 0} (eq : K → K → Bool) (hash : S → K → ℕ) (b : Begun K V S) (name : Book) (old new : ℕ) (kind : Option StepKind)
    (log log' : List (Event K V S)) (h : Copier K V S H) (at : At) (other : (t x : ℕ) → at ≡ Slot t x → ⊥) (found : ℕ) where
  last_stays : (before : List (Event K V S)) (exchanged : Bool) → MatchBool exchanged ((e : Step K V)
      × IsWished kind at new (state_of before) h.kept (exchange_of e) × IsOwnTable h.fresh (comes e) × (log' ≡ before ++ Stepped e ∷ [])) (log' ≡ before)
      → MatchBool exchanged (h.last ≡ marked_or kind None h.last) (h.last ≡ h.last)
  last_stays before true (e, wished, own, is) = unmarked new (state_of before) h.kept (exchange_of e) at other kind h.last wished
  last_stays before false is = refl

  -- there was an attempt to exchange a word that names no pair
  pub word_tried : IsTriedFor eq hash b name at kind old new h.kept h.fresh log found log' None → IsHandLeft at h.fresh h.fresh
      → (answer : Answer) → answer ≡ tried_answer found old → AnswersExchange eq hash b name at kind old new log h log' h answer
  word_tried t hand answer is = record {
    found = found;
    is = is;
    tried = record { pair = None; tried = t; last_is = last_stays t.before (found == old) t.after };
    hand = hand;
    rest = refl;
  }

module _ {K V S H : Type 0} (eq : K → K → Bool) (hash : S → K → ℕ) (b : Begun K V S) (name : Book) (old new : ℕ) (kind : Option StepKind)
    (log₀ log : List (Event K V S)) (pre : IsPrefix log₀ log) (log' : List (Event K V S)) (h h' : Copier K V S H) (t x found : ℕ) where
  -- or a slot's word
  pub slot_tried : HasTried eq hash b name (Slot t x) kind (old, new) h.kept h.fresh log h.last found log' h'.last → h' ≡ record h { last = h'.last }
      → (answer : Answer) → answer ≡ tried_answer found old → AnswersExchange eq hash b name (Slot t x) kind old new log₀ h log' h' answer
  slot_tried tried rest answer is = record {
    found = found;
    is = is;
    tried = record {
      pair = tried.pair;
      tried = record {
        before = tried.tried.before;
        since = prefix_trans log₀ log tried.tried.before pre tried.tried.since;
        lawful = tried.tried.lawful;
        now = tried.tried.now;
        is = tried.tried.is;
        names = tried.tried.names;
        placed = tried.tried.placed;
        after = tried.tried.after;
      };
      last_is = tried.last_is;
    };
    hand = ap (λ (z : Copier K V S H). z.fresh) rest;
    rest = rest ∙ (λ i. record h { last = h'.last; fresh = (sym (ap (λ (z : Copier K V S H). z.fresh) rest)) i });
  }
