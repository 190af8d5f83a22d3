-- Longer logs, and their records of exchanges, tables, keys and names.
use Rattle.std.proofs.Common.{◌≡◌, ◌⊎◌, inl, inr, ⊎_elim, ℕ, zero, suc, ◌+◌, ◌-◌, ◌==◌, Bool, false}
use Rattle.std.proofs.Common.{cond, Option, None, Some, List, [], ◌∷◌, ◌++◌, length, map, slice_get}
use Rattle.std.proofs.Common.{refl, sym, ap, ◌∙◌, append_assoc, arith, eqb-true}
use Rattle.std.proofs.lemmas.Bool.{cases_Bool, cond-true, cond-false}
use Rattle.std.proofs.lemmas.List.{append-nil, map-append}
use mathlib.Core.Path.{fun_ext}
use mathlib.Core.List.{IsPrefix}
use Rattle.boxcar.specs.Table.{Where}
use Rattle.logbook.specs.Pages.{Book}
use Rattle.papaya_words.specs.declared.resize_mode.ResizeMode.{ResizeMode}
use Rattle.papaya_call.specs.declared.ask.At.{At}
use Rattle.papaya_call.specs.declared.ask.At.TheVariants.{Root, Next, Aborted, Done, Slot, Made}
use Rattle.papaya_words_law.specs.Exchange.{Exchange, State, run, start, after}
use Rattle.papaya_words_law.specs.Grows.{Entry, brings, exchanges, size_in, places_in, chunks_in, setting_in}
use Rattle.papaya_map_book.specs.Sheets.{Sheet}
use Rattle.papaya_map_book.specs.declared.rule.entry.Named.{Named}
use Rattle.papaya_map_book.specs.declared.rule.entry.Named.TheVariants as names
use Rattle.papaya_map_book.specs.declared.rule.entry.Step.{Step}
use Rattle.papaya_map_book.specs.declared.rule.entry.Step.TheVariants as steps
use Rattle.papaya_map_book.specs.declared.rule.entry.Event.{Event}
use Rattle.papaya_map_book.specs.declared.rule.entry.Event.TheVariants.{Wish, Begin, Called, Draw, Dealt, Stepped}
use Rattle.papaya_map_book.specs.Logs.{Stored, Entered, brought, comes, entries_of, entry_of}
use Rattle.papaya_map_book.specs.Logs.{exchange_of, exchanges_of, in_table, key_at, name_in, name_of}
use Rattle.papaya_map_book.specs.Logs.{number_of, or_else, owner, plan_of, seal_of, seals_of}
use Rattle.papaya_map_book.specs.Logs.{setting_of, setting_with, state_of, step_of, steps_of, table_if}
use Rattle.papaya_map_book.specs.Logs.{table_in}
use Rattle.papaya_map_book.specs.Rule.{seal_at}
use Rattle.papaya_map_book.specs.Offer.{Answered}

pub prefix_trans : {A : Type 0} (xs ys zs : List A) → IsPrefix xs ys → IsPrefix ys zs → IsPrefix xs zs
prefix_trans xs ys zs p q = (p.0 ++ q.0, sym (append_assoc xs p.0 q.0) ∙ (ap (λ (w : List _). w ++ q.0) p.1 ∙ q.1))

pub or_else_first : {X : Type 0} (x y : Option X) (z : X) → x ≡ Some z → or_else x y ≡ Some z
or_else_first None y z e = absurd (cc e)
or_else_first (Some x) y z e = e

-- the first of three that is there
or_else_more : {X : Type 0} (x y z : Option X) → or_else (or_else x y) z ≡ or_else x (or_else y z)
or_else_more None y z = refl
or_else_more (Some x) y z = refl

pub get_left : {X : Type 0} (xs ys : List X) (k : ℕ) (x : X) → slice_get xs k ≡ Some x → slice_get (xs ++ ys) k ≡ Some x
get_left [] ys k x e = absurd (cc e)
get_left (y ∷ xs) ys zero x e = e
get_left (y ∷ xs) ys (suc k) x e = get_left xs ys k x e

-- the elements after the end of the first list
pub get_right : {X : Type 0} (xs ys : List X) (i : ℕ) → slice_get (xs ++ ys) (length xs + i) ≡ slice_get ys i
get_right [] ys i = let e : 0 + i ≡ i = omega arith in ap (slice_get ys) e
get_right (x ∷ xs) ys i = let e : length (x ∷ xs) + i ≡ suc (length xs + i) = omega arith in ap (slice_get (x ∷ (xs ++ ys))) e ∙ get_right xs ys i

key_in_later : {X : Type 0} (f : Sheet → Option X) (o o' : Option (Where Sheet)) → ((w : Where Sheet) → o ≡ Some w → o' ≡ Some w) → (k : X)
    → in_table f o ≡ Some k → in_table f o' ≡ Some k
key_in_later f None o' h k e = absurd (cc e)
key_in_later f (Some w) o' h k e = ap (in_table f) (h w refl) ∙ e

pub or_nothing : {X : Type 0} (x : Option X) → or_else x None ≡ x
or_nothing None = refl
or_nothing (Some x) = refl

pub either_table : (x y : Option (Where Sheet)) (w : Where Sheet) → or_else x y ≡ Some w → (x ≡ Some w) ⊎ (y ≡ Some w)
either_table None y w e = inr e
either_table (Some x) y w e = inl e

exchanges-append : {P : Type 0} (es fs : List (Entry P)) → exchanges (es ++ fs) ≡ exchanges es ++ exchanges fs
exchanges-append [] fs = refl
exchanges-append (e ∷ es) fs = ap (λ (l : List (Exchange _)). e.by ∷ l) (exchanges-append es fs)

-- no table comes
abbrev pub IsQuiet : {K V : Type 0} → Named K V → Type 0
IsQuiet names.Nothing = Unit {0}
IsQuiet (names.Pair p) = Unit {0}
IsQuiet (names.Table w) = ⊥

module _ {K V : Type 0} where
  -- it came with an exchange
  abbrev pub Came : Named K V → List (Step K V) → Type 0
  Came n [] = ⊥
  Came n (e ∷ es) = (comes e ≡ n) ⊎ Came n es

  pub came_left : (n : Named K V) (es fs : List (Step K V)) → Came n es → Came n (es ++ fs)
  came_left n [] fs h = absurd h
  came_left n (e ∷ es) fs (inl h) = inl h
  came_left n (e ∷ es) fs (inr h) = inr (came_left n es fs h)

  pub table_append : (es fs : List (Step K V)) (t : ℕ) → table_in (es ++ fs) t ≡ or_else (table_in es t) (table_in fs t)
  table_append [] fs t = refl
  table_append (e ∷ es) fs t = ap (or_else (table_if (comes e) t)) (table_append es fs t)
      ∙ sym (or_else_more (table_if (comes e) t) (table_in es t) (table_in fs t))

  -- a table that has come stays
  pub table_later : (es fs : List (Step K V)) (t : ℕ) (w : Where Sheet) → table_in es t ≡ Some w → table_in (es ++ fs) t ≡ Some w
  table_later es fs t w e = table_append es fs t ∙ or_else_first (table_in es t) (table_in fs t) w e

  -- so do the keys of its words
  pub key_later : (es fs : List (Step K V)) (at : At) (k : ℕ) → key_at es at ≡ Some k → key_at (es ++ fs) at ≡ Some k
  key_later es fs Root k e = e
  key_later es fs (Next t) k e = key_in_later (λ s. Some s.next) (table_in es t) (table_in (es ++ fs) t) (table_later es fs t) k e
  key_later es fs (Aborted t) k e = key_in_later (λ s. Some s.seal) (table_in es t) (table_in (es ++ fs) t) (table_later es fs t) k e
  key_later es fs (Done t c) k e = key_in_later (λ s. slice_get s.done c) (table_in es t) (table_in (es ++ fs) t) (table_later es fs t) k e
  key_later es fs (Slot t x) k e = key_in_later (λ s. slice_get s.slots x) (table_in es t) (table_in (es ++ fs) t) (table_later es fs t) k e
  key_later es fs Made k e = e

  no_table : (n : Named K V) (t : ℕ) → IsQuiet n → table_if n t ≡ None
  no_table names.Nothing t q = refl
  no_table (names.Pair p) t q = refl
  no_table (names.Table w) t q = absurd q

  -- an exchange with which no table comes leaves the tables
  pub same_table : (es : List (Step K V)) (e : Step K V) (t : ℕ) → IsQuiet (comes e) → table_in (es ++ e ∷ []) t ≡ table_in es t
  same_table es e t q = table_append es (e ∷ []) t
      ∙ (ap (λ (o : Option (Where Sheet)). or_else (table_in es t) (or_else o None)) (no_table (comes e) t q) ∙ or_nothing (table_in es t))

  pub same_key : (es : List (Step K V)) (e : Step K V) (at : At) → IsQuiet (comes e) → key_at (es ++ e ∷ []) at ≡ key_at es at
  same_key es e Root q = refl
  same_key es e (Next t) q = ap (in_table (λ s. Some s.next)) (same_table es e t q)
  same_key es e (Aborted t) q = ap (in_table (λ s. Some s.seal)) (same_table es e t q)
  same_key es e (Done t c) q = ap (in_table (λ s. slice_get s.done c)) (same_table es e t q)
  same_key es e (Slot t x) q = ap (in_table (λ s. slice_get s.slots x)) (same_table es e t q)
  same_key es e Made q = refl

  pub same_seal : (es : List (Step K V)) (e : Step K V) (at : At) → IsQuiet (comes e) → seal_at (es ++ e ∷ []) at ≡ seal_at es at
  same_seal es e Root q = refl
  same_seal es e (Next t) q = ap (in_table (λ s. Some s.seal)) (same_table es e t q)
  same_seal es e (Aborted t) q = ap (in_table (λ s. Some s.seal)) (same_table es e t q)
  same_seal es e (Done t c) q = ap (in_table (λ s. Some s.seal)) (same_table es e t q)
  same_seal es e (Slot t x) q = ap (in_table (λ s. Some s.seal)) (same_table es e t q)
  same_seal es e Made q = refl

  -- it brings none
  pub brings_none : (e : Step K V) (t : ℕ) → IsQuiet (comes e) → brings (exchange_of e) t ≡ false
  brings_none (steps.Open w) t q = absurd q
  brings_none (steps.Claim u x p) t q = refl
  brings_none (steps.Replace u x p p') t q = refl
  brings_none (steps.Bury u x p) t q = refl
  brings_none (steps.Link u w) t q = absurd q
  brings_none (steps.Mark u x p) t q = refl
  brings_none (steps.Close u x) t q = refl
  brings_none (steps.Place u x p) t q = refl
  brings_none (steps.Finish u x p) t q = refl
  brings_none (steps.Advance u c) t q = refl
  brings_none (steps.Promote u n) t q = refl
  brings_none (steps.Abort u) t q = refl
  brings_none (steps.Take m) t q = refl

  size_same : (es : List (Entry (Stored K V))) (e : Entry (Stored K V)) (t : ℕ) → brings e.by t ≡ false → size_in (es ++ e ∷ []) t ≡ size_in es t
  size_same [] e t h = cond-false (brings e.by t) e.size 1 h
  size_same (f ∷ es) e t h = ap (cond (brings f.by t) f.size) (size_same es e t h)

  places_same : (es : List (Entry (Stored K V))) (e : Entry (Stored K V)) (t : ℕ) → brings e.by t ≡ false → places_in (es ++ e ∷ []) t ≡ places_in es t
  places_same [] e t h = cond-false (brings e.by t) e.places 1 h
  places_same (f ∷ es) e t h = ap (cond (brings f.by t) f.places) (places_same es e t h)

  chunks_same : (es : List (Entry (Stored K V))) (e : Entry (Stored K V)) (t : ℕ) → brings e.by t ≡ false → chunks_in (es ++ e ∷ []) t ≡ chunks_in es t
  chunks_same [] e t h = cond-false (brings e.by t) e.chunks 0 h
  chunks_same (f ∷ es) e t h = ap (cond (brings f.by t) f.chunks) (chunks_same es e t h)

  -- a table that is there came with some exchange, under the number that was looked up
  table_came_with : (n : Named K V) (t : ℕ) (w : Where Sheet) → table_if n t ≡ Some w → (n ≡ names.Table w) × (number_of w ≡ t)
  table_came_with names.Nothing t w e = absurd (cc e)
  table_came_with (names.Pair p) t w e = absurd (cc e)
  table_came_with (names.Table v) t w e =
      ⊎_elim
      (λ h. let c = cond-true (number_of v == t) (Some v) None h in let same : v ≡ w = cc (c, e) in
      (ap names.Table same, ap number_of (sym same) ∙ eqb-true (number_of v) t h))
      (λ h. let c = cond-false (number_of v == t) (Some v) None h in absurd (cc (c, e)))
      (cases_Bool (number_of v == t))

  pub table_came : (es : List (Step K V)) (t : ℕ) (w : Where Sheet) → table_in es t ≡ Some w → Came (names.Table w) es × (number_of w ≡ t)
  table_came [] t w e = absurd (cc e)
  table_came (f ∷ es) t w e =
      ⊎_elim
      (λ h. let r = table_came_with (comes f) t w h in (inl r.0, r.1))
      (λ h. let r = table_came es t w h in (inr r.0, r.1))
      (either_table (table_if (comes f) t) (table_in es t) w e)

module _ {K V S : Type 0} where
  pub steps-append : (xs ys : List (Event K V S)) → steps_of (xs ++ ys) ≡ steps_of xs ++ steps_of ys
  steps-append [] ys = refl
  steps-append (x ∷ xs) ys = ap (λ (l : List (Step K V)). step_of x ++ l) (steps-append xs ys) ∙ sym (append_assoc (step_of x) (steps_of xs) (steps_of ys))

  pub seals-append : (xs ys : List (Event K V S)) → seals_of (xs ++ ys) ≡ seals_of xs ++ seals_of ys
  seals-append [] ys = refl
  seals-append (x ∷ xs) ys = ap (λ (l : List ℕ). seal_of x ++ l) (seals-append xs ys) ∙ sym (append_assoc (seal_of x) (seals_of xs) (seals_of ys))

  pub name-append : (xs ys : List (Event K V S)) → name_in (xs ++ ys) ≡ or_else (name_in xs) (name_in ys)
  name-append [] ys = refl
  name-append (x ∷ xs) ys = ap (or_else (name_of x)) (name-append xs ys) ∙ sym (or_else_more (name_of x) (name_in xs) (name_in ys))

  pub name_later : (xs ys : List (Event K V S)) (b : Book) → name_in xs ≡ Some b → name_in (xs ++ ys) ≡ Some b
  name_later xs ys b e = name-append xs ys ∙ or_else_first (name_in xs) (name_in ys) b e

  pub name_since : (xs ys : List (Event K V S)) (b : Book) → IsPrefix xs ys → name_in xs ≡ Some b → name_in ys ≡ Some b
  name_since xs ys b pre e = ap name_in (sym pre.1) ∙ name_later xs pre.0 b e

  pub owner_later : (xs ys : List (Event K V S)) (k seal : ℕ) → owner k xs ≡ Some seal → owner k (xs ++ ys) ≡ Some seal
  owner_later xs ys k seal e = ap (λ (l : List ℕ). slice_get l (k - 3)) (seals-append xs ys) ∙ get_left (seals_of xs) (seals_of ys) (k - 3) seal e

  pub entered_left : (n : Named K V) (xs ys : List (Event K V S)) → Entered n xs → Entered n (xs ++ ys)
  entered_left n [] ys h = absurd h
  entered_left n (x ∷ xs) ys (inl h) = inl h
  entered_left n (x ∷ xs) ys (inr h) = inr (entered_left n xs ys h)

  pub entered_last : (n : Named K V) (xs : List (Event K V S)) (e : Event K V S) → Entered n (xs ++ e ∷ []) → Entered n xs ⊎ (brought e ≡ n)
  entered_last n [] e (inl h) = inr h
  entered_last n [] e (inr h) = absurd h
  entered_last n (x ∷ xs) e (inl h) = inl (inl h)
  entered_last n (x ∷ xs) e (inr h) = ⊎_elim (λ i. inl (inr i)) (λ i. inr i) (entered_last n xs e h)

  pub answered_left : (n : Named K V) (xs ys : List (Event K V S)) → Answered xs n → Answered (xs ++ ys) n
  answered_left names.Nothing xs ys h = tt
  answered_left (names.Pair p) xs ys h = entered_left (names.Pair p) xs ys h
  answered_left (names.Table w) xs ys h = entered_left (names.Table w) xs ys h

  -- a thing that came with an exchange was entered in the book
  pub came_entered : (n : Named K V) (log : List (Event K V S)) → Came n (steps_of log) → Entered n log
  came_entered n [] h = absurd h
  came_entered n (Wish at kind made m ∷ log) h = inr (came_entered n log h)
  came_entered n (Begin b ∷ log) h = inr (came_entered n log h)
  came_entered n (Called b ∷ log) h = inr (came_entered n log h)
  came_entered n (Draw b first count ∷ log) h = inr (came_entered n log h)
  came_entered n (Dealt seal count ∷ log) h = inr (came_entered n log h)
  came_entered n (Stepped e ∷ log) (inl h) = inl h
  came_entered n (Stepped e ∷ log) (inr h) = inr (came_entered n log h)

  pub entries-append : (xs ys : List (Event K V S)) → entries_of (xs ++ ys) ≡ entries_of xs ++ entries_of ys
  entries-append xs ys = ap (map entry_of) (steps-append xs ys) ∙ map-append entry_of (steps_of xs) (steps_of ys)

  pub exchanges_of-append : (xs ys : List (Event K V S)) → exchanges_of (xs ++ ys) ≡ exchanges_of xs ++ exchanges_of ys
  exchanges_of-append xs ys = ap exchanges (entries-append xs ys) ∙ exchanges-append (entries_of xs) (entries_of ys)

  -- an entry that is no exchange leaves the exchanges
  pub steps_same : (log : List (Event K V S)) (e : Event K V S) → step_of e ≡ [] → steps_of (log ++ e ∷ []) ≡ steps_of log
  steps_same log e h = steps-append log (e ∷ []) ∙ (ap (λ (l : List (Step K V)). steps_of log ++ (l ++ [])) h ∙ append-nil (steps_of log))

  -- an exchange with which no table comes leaves the setting
  pub setting_same : (eq : K → K → Bool) (hash : K → ℕ) (mode : ResizeMode) (most : Option ℕ) (log : List (Event K V S)) (e : Step K V)
      → IsQuiet (comes e) → setting_of eq hash mode most (log ++ Stepped e ∷ []) ≡ setting_of eq hash mode most log
  setting_same eq hash mode most log e q =
      ap (setting_in (plan_of eq hash mode most)) (entries-append log (Stepped e ∷ []))
      ∙ (let sizes : size_in (entries_of log ++ entry_of e ∷ []) ≡ size_in (entries_of log) = fun_ext
      (λ t. size_same (entries_of log) (entry_of e) t (brings_none e t q)) in
      let places : places_in (entries_of log ++ entry_of e ∷ []) ≡ places_in (entries_of log) = fun_ext
      (λ t. places_same (entries_of log) (entry_of e) t (brings_none e t q)) in
      let chunks : chunks_in (entries_of log ++ entry_of e ∷ []) ≡ chunks_in (entries_of log) = fun_ext
      (λ t. chunks_same (entries_of log) (entry_of e) t (brings_none e t q)) in
      λ i. Rattle.papaya_words_law.specs.Grows.planned (plan_of eq hash mode most) (sizes i) (places i) (chunks i))

  -- if no table comes, it is the setting of the log
  pub with_quiet : (eq : K → K → Bool) (hash : K → ℕ) (mode : ResizeMode) (most : Option ℕ) (log : List (Event K V S)) (n : Named K V) → IsQuiet n
      → setting_with eq hash mode most n log ≡ setting_of eq hash mode most log
  with_quiet eq hash mode most log names.Nothing q = refl
  with_quiet eq hash mode most log (names.Pair p) q = refl
  with_quiet eq hash mode most log (names.Table w) q = absurd q

run-append : {P : Type 0} (xs ys : List (Exchange P)) (s : State P) → run (xs ++ ys) s ≡ run ys (run xs s)
run-append [] ys s = refl
run-append (x ∷ xs) ys s = run-append xs ys (after s x)

-- the state after one more exchange
pub state_more : {K V S : Type 0} (log : List (Event K V S)) (e : Step K V) → state_of (log ++ Stepped e ∷ []) ≡ after (state_of log) (exchange_of e)
state_more log e = ap (λ (l : List (Exchange (Stored _ _))). run l start) (exchanges_of-append log (Stepped e ∷ []))
    ∙ run-append (exchanges_of log) (exchange_of e ∷ []) start
