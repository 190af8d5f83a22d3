-- A table that is brought in: the keys of its words are new, and its words are blank.
use Rattle.std.proofs.Common.{◌≡◌, ◌⊎◌, inl, inr, ⊎_elim, ℕ, zero, suc, ◌-◌, ◌<◌, ◌≤◌, ◌==◌, Bool}
use Rattle.std.proofs.Common.{true, false, cond, Option, None, Some, List, [], ◌∷◌, ◌++◌, length}
use Rattle.std.proofs.Common.{slice_get, refl, sym, ap, ◌∙◌, subst, arith, eqb-true, eq-eqb}
use Rattle.std.proofs.lemmas.Bool.{cases_Bool, cond-true, cond-false}
use Rattle.boxcar.specs.Table.{Where}
use Rattle.logbook.specs.Pages.{Cell, cell}
use Rattle.papaya_call.specs.declared.ask.At.{At}
use Rattle.papaya_call.specs.declared.ask.At.TheVariants.{Root, Next, Aborted, Done, Slot, Made}
use Rattle.papaya_words_law.specs.Code.{Coding, code}
use Rattle.papaya_words_law.specs.Exchange.{Empty, Setting, State}
use Rattle.papaya_words_law.specs.Grows.{Plan, planned}
use Rattle.papaya_call_law.specs.TrueAnswers.{word_of}
use Rattle.papaya_map_book.specs.Sheets.{Sheet}
use Rattle.papaya_map_book.specs.declared.rule.entry.Named.{Named}
use Rattle.papaya_map_book.specs.declared.rule.entry.Named.TheVariants as names
use Rattle.papaya_map_book.specs.declared.rule.entry.Step.{Step}
use Rattle.papaya_map_book.specs.declared.rule.entry.Event.{Event}
use Rattle.papaya_map_book.specs.Logs.{comes, in_table, key_at, number_of, or_else, owner, seals_of, steps_of, table_if, table_in}
use Rattle.papaya_map_book.specs.Makers.{key_of, table_of}
use Rattle.papaya_map_book.specs.Rule.{IsBlank, AreCodes, IsOfMap, seal_at}
use Rattle.papaya_map_book.proofs.Logs.{get_left, owner_later, table_append, table_later}
use Rattle.papaya_map_book.proofs.Makers.{map_key, sealed_or_map}

pub get_within : {X : Type 0} (xs : List X) (i : ℕ) (x : X) → slice_get xs i ≡ Some x → i < length xs
get_within [] i x e = absurd (cc e)
get_within (y ∷ xs) zero x e = omega arith
get_within (y ∷ xs) (suc i) x e = let l = get_within xs i x e in omega arith

-- a place is the root or it is not
pub root_or_not : (at : At) → (at ≡ Root) ⊎ (at ≡ Root → ⊥)
root_or_not Root = inl refl
root_or_not (Next t) = inr (λ e. cc e)
root_or_not (Aborted t) = inr (λ e. cc e)
root_or_not (Done t c) = inr (λ e. cc e)
root_or_not (Slot t x) = inr (λ e. cc e)
root_or_not Made = inr (λ e. cc e)

either_in : {X : Type 0} (f : Sheet → Option X) (o n : Option (Where Sheet)) (j : X) → in_table f (or_else o n) ≡ Some j → (in_table f o ≡ Some j)
    ⊎ ((o ≡ None) × (in_table f n ≡ Some j))
either_in f None n j e = inr (refl, e)
either_in f (Some w) n j e = inl e

-- if a table has not come, no word of it has a seal
pub no_seal : {K V : Type 0} (es : List (Step K V)) (at : At) → table_in es (table_of at) ≡ None → seal_at es at ≡ None
no_seal es Root n = refl
no_seal es (Next t) n = ap (in_table (λ s. Some s.seal)) n
no_seal es (Aborted t) n = ap (in_table (λ s. Some s.seal)) n
no_seal es (Done t c) n = ap (in_table (λ s. Some s.seal)) n
no_seal es (Slot t x) n = ap (in_table (λ s. Some s.seal)) n
no_seal es Made n = refl

-- the words of a blank table are 0
pub blank_zero : {K P : Type 0} (g : Setting K P) (c : Coding K P) (s : State P) (at : At) → (IsOfMap at → ⊥) → IsBlank s (table_of at) → word_of g c s at ≡ 0
blank_zero g c s Root n b = absurd (n tt)
blank_zero g c s (Next t) n b = b.next
blank_zero g c s (Aborted t) n b = ap (λ (z : Bool). cond z 1 0) b.aborted
blank_zero g c s (Done t d) n b = ap (λ (z : Bool). cond z 1 0) (b.done d)
blank_zero g c s (Slot t x) n b = ap (code g c) (b.slots x)
blank_zero g c s Made n b = absurd (n tt)

-- a word's number does not depend on the tables' sizes
pub word_sizes : {K P : Type 0} (h : Plan K P) (size size' places places' : ℕ → ℕ) (chunks chunks' : ℕ → ℕ) (c : Coding K P) (s : State P) (at : At)
    → word_of (planned h size places chunks) c s at ≡ word_of (planned h size' places' chunks') c s at
word_sizes h size size' places places' chunks chunks' c s Root = refl
word_sizes h size size' places places' chunks chunks' c s (Next t) = refl
word_sizes h size size' places places' chunks chunks' c s (Aborted t) = refl
word_sizes h size size' places places' chunks chunks' c s (Done t d) = refl
word_sizes h size size' places places' chunks chunks' c s Made = refl
word_sizes h size size' places places' chunks chunks' c s (Slot t x) = named_word (s.slot t x)
  where
    named_word : (w : Rattle.papaya_words_law.specs.Exchange.Word _) → code (planned h size places chunks) c w ≡ code (planned h size' places' chunks') c w
    named_word Rattle.papaya_words_law.specs.Exchange.Empty = refl
    named_word Rattle.papaya_words_law.specs.Exchange.Closed = refl
    named_word (Rattle.papaya_words_law.specs.Exchange.Live p) = refl
    named_word (Rattle.papaya_words_law.specs.Exchange.Marked p) = refl
    named_word (Rattle.papaya_words_law.specs.Exchange.Copied p) = refl
    named_word (Rattle.papaya_words_law.specs.Exchange.Buried p) = refl

module _ {K V : Type 0} (es : List (Step K V)) (e : Step K V) (w : Where Sheet) (with_it : comes e ≡ names.Table w) where
  -- the table of a number after the table came
  pub table_then : (t : ℕ) → table_in (es ++ e ∷ []) t ≡ or_else (table_in es t) (or_else (cond (number_of w == t) (Some w) None) None)
  table_then t = table_append es (e ∷ []) t ∙ ap (λ (n : Named K V). or_else (table_in es t) (or_else (table_if n t) None)) with_it

  -- it is there
  pub table_there : table_in es (number_of w) ≡ None → table_in (es ++ e ∷ []) (number_of w) ≡ Some w
  table_there none =
      table_then (number_of w)
      ∙ (ap (λ (o : Option (Where Sheet)). or_else o (or_else (cond (number_of w == number_of w) (Some w) None) None)) none
      ∙ ap (λ (o : Option (Where Sheet)). or_else o None) (cond-true (number_of w == number_of w) (Some w) None (eq-eqb (number_of w) (number_of w) refl)))

  new_if : {X : Type 0} (f : Sheet → Option X) (t : ℕ) (j : X) → in_table f (or_else (cond (number_of w == t) (Some w) None) None) ≡ Some j
      → (t ≡ number_of w) × (f w.value ≡ Some j) × (or_else (cond (number_of w == t) (Some w) None) None ≡ Some w)
  new_if f t j x =
      ⊎_elim
      (λ h. let c : cond (number_of w == t) (Some w) None ≡ Some w = cond-true (number_of w == t) (Some w) None h in (
        sym (eqb-true (number_of w) t h),
        sym (ap (λ (o : Option (Where Sheet)). in_table f (or_else o None)) c)
            ∙ x,
        ap (λ (o : Option (Where Sheet)). or_else o None) c,
      ))
      (λ h. let c : cond (number_of w == t) (Some w) None ≡ None = cond-false (number_of w == t) (Some w) None h in
      let none : None ≡ Some j = sym (ap (λ (o : Option (Where Sheet)). in_table f (or_else o None)) c) ∙ x in absurd (cc none))
      (cases_Bool (number_of w == t))

  in_new : {X : Type 0} (f : Sheet → Option X) (t : ℕ) (j : X) → in_table f (table_in (es ++ e ∷ []) t) ≡ Some j
      → (in_table f (table_in es t) ≡ Some j) ⊎ ((t ≡ number_of w) × (table_in es t ≡ None) × (f w.value ≡ Some j) × (table_in (es ++ e ∷ []) t ≡ Some w))
  in_new f t j x =
      ⊎_elim
      (λ h. inl h)
      (λ h. let n = new_if f t j h.1 in inr (
        n.0,
        h.0,
        n.1,
        table_then t
            ∙ (ap (λ (o : Option (Where Sheet)). or_else o (or_else (cond (number_of w == t) (Some w) None) None)) h.0 ∙ n.2),
      ))
      (either_in f (table_in es t) (or_else (cond (number_of w == t) (Some w) None) None) j (sym (ap (in_table f) (table_then t)) ∙ x))

  -- a word of the table that came
  pub record IsNew (at : At) (j : ℕ) : Type 0 where
    pub is_table : table_of at ≡ number_of w
    pub none : table_in es (table_of at) ≡ None
    pub key : key_of w.value at ≡ Some j
    pub seal : seal_at (es ++ e ∷ []) at ≡ Some w.value.seal
    pub not_map : IsOfMap at → ⊥

  -- a word that has a key had it, or is of the table that came
  pub old_or_new : (at : At) (j : ℕ) → key_at (es ++ e ∷ []) at ≡ Some j → (key_at es at ≡ Some j) ⊎ IsNew at j
  old_or_new Root j x = inl x
  old_or_new Made j x = inl x
  old_or_new (Next t) j x = ⊎_elim (λ h. inl h)
      (λ h. inr (record { is_table = h.0; none = h.1; key = h.2; seal = ap (in_table (λ s. Some s.seal)) h.3; not_map = λ r. r }))
      (in_new (λ s. Some s.next) t j x)
  old_or_new (Aborted t) j x = ⊎_elim (λ h. inl h)
      (λ h. inr (record { is_table = h.0; none = h.1; key = h.2; seal = ap (in_table (λ s. Some s.seal)) h.3; not_map = λ r. r }))
      (in_new (λ s. Some s.seal) t j x)
  old_or_new (Done t d) j x = ⊎_elim (λ h. inl h)
      (λ h. inr (record { is_table = h.0; none = h.1; key = h.2; seal = ap (in_table (λ s. Some s.seal)) h.3; not_map = λ r. r }))
      (in_new (λ s. slice_get s.done d) t j x)
  old_or_new (Slot t i) j x = ⊎_elim (λ h. inl h)
      (λ h. inr (record { is_table = h.0; none = h.1; key = h.2; seal = ap (in_table (λ s. Some s.seal)) h.3; not_map = λ r. r }))
      (in_new (λ s. slice_get s.slots i) t j x)

  -- seals stay
  pub seal_later : (at : At) (seal : ℕ) → seal_at es at ≡ Some seal → seal_at (es ++ e ∷ []) at ≡ Some seal
  seal_later Root seal x = x
  seal_later Made seal x = x
  seal_later (Next t) seal x = same_seal_in t seal x
    where
      same_seal_in : (t seal : ℕ) → in_table (λ s. Some s.seal) (table_in es t) ≡ Some seal
          → in_table (λ s. Some s.seal) (table_in (es ++ e ∷ []) t) ≡ Some seal
      same_seal_in t seal x = Rattle.papaya_map_book.proofs.Logs.key_later es (e ∷ []) (Aborted t) seal x
  seal_later (Aborted t) seal x = Rattle.papaya_map_book.proofs.Logs.key_later es (e ∷ []) (Aborted t) seal x
  seal_later (Done t d) seal x = Rattle.papaya_map_book.proofs.Logs.key_later es (e ∷ []) (Aborted t) seal x
  seal_later (Slot t i) seal x = Rattle.papaya_map_book.proofs.Logs.key_later es (e ∷ []) (Aborted t) seal x

-- the word `aborted` of a table has the table's seal for its key
seal_key : {K V : Type 0} (es : List (Step K V)) (at : At) (seal : ℕ) → seal_at es at ≡ Some seal → key_at es (Aborted (table_of at)) ≡ Some seal
seal_key es Root seal x = absurd (cc x)
seal_key es Made seal x = absurd (cc x)
seal_key es (Next t) seal x = x
seal_key es (Aborted t) seal x = x
seal_key es (Done t d) seal x = x
seal_key es (Slot t i) seal x = x

-- No word of a table that has come was dealt for a table whose seal is not home.
pub no_shared : {K V S : Type 0} (eq : K → K → Bool) (hash : S → K → ℕ) (cs : List Cell) (log : List (Event K V S)) (h : AreCodes eq hash cs log)
    (seal : ℕ) → (cell cs seal).1 ≡ false → (at : At) (j : ℕ) → key_at (steps_of log) at ≡ Some j → 3 ≤ j → owner j log ≡ Some seal → ⊥
no_shared eq hash cs log h seal away at j key past own =
    let of_map : IsOfMap at → ⊥ = λ r. let z = (map_key (steps_of log) at j r key).1 in absurd (omega arith) in
    ⊎_elim
    of_map
    (λ i. ⊎_elim
    (λ s. let l = get_within (seals_of log) (j - 3) seal own in let m = h.room in let behind = s.1 in absurd (omega arith))
    (λ o. ⊎_elim
    of_map
    (λ s. let same : s.0 ≡ seal = cc (own, o, s.1) in
    let there : key_at (steps_of log) (Aborted (table_of at)) ≡ Some s.0 = seal_key (steps_of log) at s.0 s.1 in
    let home : (cell cs s.0).1 ≡ true = ap (λ (c : Cell). c.1) (h.coded (Aborted (table_of at)) s.0 there) in
    let home' : (cell cs seal).1 ≡ true = subst (λ (n : ℕ). (cell cs n).1 ≡ true) same home in cc (home', away))
    (sealed_or_map (steps_of log) at j key))
    i)
    (h.owned at j key)
