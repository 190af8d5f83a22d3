-- The work that each caller has under way, and how it is taken out of its seat and put back.
use Rattle.std.proofs.Common.{◌≡◌, ◌≢◌, ℕ, zero, suc, ◌<◌, ◌≤◌, ◌==◌, Bool, true, false, cond, List}
use Rattle.std.proofs.Common.{[], ◌∷◌, length, slice_get, slice_set, Option, Some, None, refl, sym}
use Rattle.std.proofs.Common.{◌∙◌, ap, subst, arith, ⊎_elim, eq-eqb, eqb-true, ◌++◌, IsSome}
use Rattle.std.proofs.Common.{is_some}
use Rattle.std.proofs.lemmas.Bool.{cases_Bool, cases_lt}
use Rattle.std.proofs.lemmas.Option.{slice_get_within}
use Rattle.papaya_call.specs.declared.chain.resizer.Resizer.{Resizer}
use Rattle.papaya_core_store.specs.declared.pairs.Running.{Running}
use Rattle.papaya_core_timeline.specs.declared.seat.Work.{Work}
use Rattle.papaya_core_timeline.specs.declared.seat.Work.TheVariants.{Call, Resize, Scan}
use Rattle.papaya_core_timeline.specs.declared.seat.Seat.{Seat}
use Rattle.papaya_core_timeline.specs.Callers.{as_work, call_in, resizer_in, resizing, running, scanning}
use Rattle.papaya_core_timeline.specs.Callers.{scanner_in, working, with_call, with_work, with_seat}
use Rattle.papaya_core_timeline.specs.Callers.{IsSeated, IsSeatAt}
use Rattle.papaya_core_store.specs.declared.scans.Scanning.{Scanning}

-- two equal `Some` have equal items
pub same_item : {A : Type 0} (x y : A) → Some x ≡ Some y → x ≡ y
same_item x y e = cc

-- a list has an item at each place
pub item_there : {A : Type 0} (xs : List A) (i : ℕ) → i < length xs → (x : A) × (slice_get xs i ≡ Some x)
item_there [] i lt = absurd (omega arith)
item_there (x ∷ xs) zero lt = (x, refl)
item_there (x ∷ xs) (suc i) lt = item_there xs i (omega arith)

-- a value that is there is not `None`
pub not_none : {A : Type 0} (o : Option A) → is_some o ≡ true → o ≡ None → ⊥
not_none o some none = let f : false ≡ true = sym (ap is_some none) ∙ some in cc

-- a test of two numbers that differ
pub differs : (a b : ℕ) → a ≢ b → (a == b) ≡ false
differs a b ne = ⊎_elim (λ (e : (a == b) ≡ true). absurd (ne (eqb-true a b e))) (λ (e : (a == b) ≡ false). e) (cases_Bool (a == b))

-- a choice between a value and itself
pub either_way : {A : Type 0} (b : Bool) (x : A) → cond b x x ≡ x
either_way true x = refl
either_way false x = refl

module _ {K V A : Type 0} where
  -- the place in a list without its first seat
  later : (x : Seat K V A) (xs : List (Seat K V A)) (caller place : ℕ) → IsSeatAt (x ∷ xs) caller (suc place) → IsSeatAt xs caller place
  later x xs caller place at = record {
    within = let h : suc place ≤ length (x ∷ xs) = at.within in omega arith;
    before = λ i seat lt e. at.before (suc i) seat (omega arith) e;
    here = at.here;
  }

  -- the work of the first seat of a caller is the caller's
  pub working-at : (seats : List (Seat K V A)) (caller place : ℕ) (seat : Seat K V A) → IsSeatAt seats caller place
      → slice_get seats place ≡ Some seat → working seats caller ≡ seat.work
  working-at [] caller place seat at e = let f : None ≡ Some seat = e in cc
  working-at (x ∷ xs) caller zero seat at e =
      let same : x ≡ seat = same_item x seat e in
      ap (λ b. cond b x.work (working xs caller)) (eq-eqb x.caller caller (at.here x refl)) ∙ ap (λ s. s.work) same
  working-at (x ∷ xs) caller (suc place) seat at e =
      ap (λ b. cond b x.work (working xs caller)) (differs x.caller caller (at.before 0 x (omega arith) refl))
      ∙ working-at xs caller place seat (later x xs caller place at) e

  -- with no seat a caller has no work
  pub working-none : (seats : List (Seat K V A)) (caller : ℕ) → IsSeatAt seats caller (length seats) → working seats caller ≡ None
  working-none [] caller at = refl
  working-none (x ∷ xs) caller at =
      ap (λ b. cond b x.work (working xs caller)) (differs x.caller caller (at.before 0 x (omega arith) refl))
      ∙ working-none xs caller (later x xs caller (length xs) at)

  -- a write to the first seat of a caller
  pub with_work-at : (seats : List (Seat K V A)) (caller place : ℕ) (seat : Seat K V A) (work : Option (Work K V A)) → IsSeatAt seats caller place
      → slice_get seats place ≡ Some seat → with_work seats caller work ≡ slice_set seats place (record seat { work = work })
  with_work-at [] caller place seat work at e = let f : None ≡ Some seat = e in cc
  with_work-at (x ∷ xs) caller zero seat work at e =
      let same : x ≡ seat = same_item x seat e in
      ap (λ b. cond b (record x { work = work } ∷ xs) (x ∷ with_work xs caller work)) (eq-eqb x.caller caller (at.here x refl))
      ∙ ap (λ (s : Seat K V A). record s { work = work } ∷ xs) same
  with_work-at (x ∷ xs) caller (suc place) seat work at e =
      ap (λ b. cond b (record x { work = work } ∷ xs) (x ∷ with_work xs caller work)) (differs x.caller caller (at.before 0 x (omega arith) refl))
      ∙ ap (λ (s : List (Seat K V A)). x ∷ s) (with_work-at xs caller place seat work (later x xs caller place at) e)

  -- a caller with a seat has a first one
  pub seated-within : (seats : List (Seat K V A)) (caller place : ℕ) → IsSeatAt seats caller place → IsSeated seats caller → place < length seats
  seated-within seats caller place at (i, seat, there, is) =
      ⊎_elim
      (λ (within : place < length seats). within)
      (λ (past : length seats ≤ place). let lt = slice_get_within seats i seat there in absurd (at.before i seat (omega arith) there is))
      (cases_lt place (length seats))

  -- a caller with work has a seat
  pub working-within : (seats : List (Seat K V A)) (caller place : ℕ) → IsSeatAt seats caller place → IsSome (working seats caller) → place < length seats
  working-within seats caller place at some =
      ⊎_elim
      (λ (within : place < length seats). within)
      (λ (past : length seats ≤ place).
      let e : place ≡ length seats = let w = at.within in omega arith in
      let none : working seats caller ≡ None = working-none seats caller (subst (IsSeatAt seats caller) e at) in
      let f : false ≡ true = sym (ap is_some none) ∙ some in
      cc)
      (cases_lt place (length seats))

  -- a seat at the end for a caller that had none
  pub with_seat-end : (seats : List (Seat K V A)) (caller : ℕ) → IsSeatAt seats caller (length seats)
      → with_seat seats caller ≡ seats ++ record { caller = caller; work = None } ∷ []
  with_seat-end [] caller at = refl
  with_seat-end (x ∷ xs) caller at =
      ap (λ b. cond b (x ∷ xs) (x ∷ with_seat xs caller)) (differs x.caller caller (at.before 0 x (omega arith) refl))
      ∙ ap (λ (s : List (Seat K V A)). x ∷ s) (with_seat-end xs caller (later x xs caller (length xs) at))

  -- no new seat for a caller that has one
  pub with_seat-there : (seats : List (Seat K V A)) (caller place : ℕ) → IsSeatAt seats caller place → place < length seats → with_seat seats caller ≡ seats
  with_seat-there [] caller place at lt = absurd (omega arith)
  with_seat-there (x ∷ xs) caller zero at lt =
      ap (λ b. cond b (x ∷ xs) (x ∷ with_seat xs caller)) (eq-eqb x.caller caller (at.here x refl))
  with_seat-there (x ∷ xs) caller (suc place) at lt =
      ap (λ b. cond b (x ∷ xs) (x ∷ with_seat xs caller)) (differs x.caller caller (at.before 0 x (omega arith) refl))
      ∙ ap (λ (s : List (Seat K V A)). x ∷ s) (with_seat-there xs caller place (later x xs caller place at) (omega arith))

  -- the caller of a seat has a seat
  pub seat-seated : (seats : List (Seat K V A)) (caller place : ℕ) → IsSeatAt seats caller place → place < length seats → IsSeated seats caller
  seat-seated seats caller place at lt = let (x, there) = item_there seats place lt in (place, x, there, at.here x there)

  -- the caller has its seat after its call was taken or put back
  pub with_work-seated : (seats : List (Seat K V A)) (caller place : ℕ) (work : Option (Work K V A)) → IsSeatAt seats caller place
      → place < length seats → IsSeated (with_work seats caller work) caller
  with_work-seated [] caller place work at lt = absurd (omega arith)
  with_work-seated (x ∷ xs) caller zero work at lt =
      subst (λ (s : List (Seat K V A)). IsSeated s caller) (sym (with_work-at (x ∷ xs) caller zero x work at refl))
      (0, record x { work = work }, refl, at.here x refl)
  with_work-seated (x ∷ xs) caller (suc place) work at lt =
      let (i, seat, there, is) = with_work-seated xs caller place work (later x xs caller place at) (omega arith) in
      let e : with_work (x ∷ xs) caller work ≡ x ∷ with_work xs caller work = ap
      (λ b. cond b (record x { work = work } ∷ xs) (x ∷ with_work xs caller work)) (differs x.caller caller (at.before 0 x (omega arith) refl)) in
      subst (λ (s : List (Seat K V A)). IsSeated s caller) (sym e) (suc i, seat, there, is)

  -- a caller that was given a seat at the end has it
  pub end-seated : (seats : List (Seat K V A)) (caller : ℕ) → IsSeated (seats ++ record { caller = caller; work = None } ∷ []) caller
  end-seated [] caller = (0, record { caller = caller; work = None }, refl, refl)
  end-seated (x ∷ xs) caller = let (i, seat, there, is) = end-seated xs caller in (suc i, seat, there, is)

  -- a seat that was added leaves each caller's work
  with_seat-first : (x : Seat K V A) (xs more : List (Seat K V A)) (other : ℕ) (b : Bool) → working more other ≡ working xs other
      → working (cond b (x ∷ xs) (x ∷ more)) other ≡ working (x ∷ xs) other
  with_seat-first x xs more other true e = refl
  with_seat-first x xs more other false e = ap (λ y. cond (x.caller == other) x.work y) e

  pub working-with_seat : (seats : List (Seat K V A)) (caller other : ℕ) → working (with_seat seats caller) other ≡ working seats other
  working-with_seat [] caller other = either_way (caller == other) None
  working-with_seat (x ∷ xs) caller other = with_seat-first x xs (with_seat xs caller) other (x.caller == caller) (working-with_seat xs caller other)

  -- work that was put into another's seat leaves a caller's work
  other-first : (x : Seat K V A) (xs more : List (Seat K V A)) (caller other : ℕ) (work : Option (Work K V A)) (b : Bool) → (x.caller == caller) ≡ b
      → other ≢ caller → working more other ≡ working xs other → working (cond b (record x { work = work } ∷ xs) (x ∷ more)) other ≡ working (x ∷ xs) other
  other-first x xs more caller other work true is differ e =
      let elsewhere : (x.caller == other) ≡ false = differs x.caller other (λ same. differ (sym same ∙ eqb-true x.caller caller is)) in
      ap (λ b. cond b work (working xs other)) elsewhere ∙ sym (ap (λ b. cond b x.work (working xs other)) elsewhere)
  other-first x xs more caller other work false is differ e = ap (λ y. cond (x.caller == other) x.work y) e

  pub working-other : (seats : List (Seat K V A)) (caller other : ℕ) (work : Option (Work K V A)) → other ≢ caller
      → working (with_work seats caller work) other ≡ working seats other
  working-other [] caller other work differ = refl
  working-other (x ∷ xs) caller other work differ = other-first x xs (with_work xs caller work) caller other work (x.caller == caller) refl differ
      (working-other xs caller other work differ)

  -- a caller's work is the one that was put into its seat
  same-first : (x : Seat K V A) (xs more : List (Seat K V A)) (caller : ℕ) (work : Option (Work K V A)) (r : Work K V A) (b : Bool)
      → (x.caller == caller) ≡ b → (working more caller ≡ Some r → work ≡ Some r)
      → working (cond b (record x { work = work } ∷ xs) (x ∷ more)) caller ≡ Some r → work ≡ Some r
  same-first x xs more caller work r true is f h = sym (ap (λ b. cond b work (working xs caller)) is) ∙ h
  same-first x xs more caller work r false is f h = f (sym (ap (λ b. cond b x.work (working more caller)) is) ∙ h)

  pub working-same : (seats : List (Seat K V A)) (caller : ℕ) (work : Option (Work K V A)) (r : Work K V A)
      → working (with_work seats caller work) caller ≡ Some r → work ≡ Some r
  working-same [] caller work r e = let f : None ≡ Some r = e in cc
  working-same (x ∷ xs) caller work r e = same-first x xs (with_work xs caller work) caller work r (x.caller == caller) refl (working-same xs caller work r) e

  -- if two calls are put into one seat, the second remains
  twice-first : (x : Seat K V A) (xs once : List (Seat K V A)) (caller : ℕ) (first second : Option (Work K V A)) (b : Bool) → (x.caller == caller) ≡ b
      → with_work once caller second ≡ with_work xs caller second
      → with_work (cond b (record x { work = first } ∷ xs) (x ∷ once)) caller second ≡ cond b (record x { work = second } ∷ xs) (x ∷ with_work xs caller second)
  twice-first x xs once caller first second true is e = ap
      (λ b. cond b (record x { work = second } ∷ xs) (record x { work = first } ∷ with_work xs caller second)) is
  twice-first x xs once caller first second false is e = ap (λ b. cond b (record x { work = second } ∷ once) (x ∷ with_work once caller second)) is
      ∙ ap (λ (s : List (Seat K V A)). x ∷ s) e

  pub with_work-twice : (seats : List (Seat K V A)) (caller : ℕ) (first second : Option (Work K V A))
      → with_work (with_work seats caller first) caller second ≡ with_work seats caller second
  with_work-twice [] caller first second = refl
  with_work-twice (x ∷ xs) caller first second = twice-first x xs (with_work xs caller first) caller first second (x.caller == caller) refl
      (with_work-twice xs caller first second)

  -- the work under way is this call on one key, or a call that resizes the map
  pub call-under_way : (work : Option (Work K V A)) (r : Running K V A) → call_in work ≡ Some r → work ≡ Some (Call r)
  call-under_way None r e = let f : None ≡ Some r = e in cc
  call-under_way (Some (Call q)) r e = ap (λ (y : Running K V A). Some (Call y)) (same_item q r e)
  call-under_way (Some (Resize z)) r e = let f : None ≡ Some r = e in cc
  call-under_way (Some (Scan v)) r e = let f : None ≡ Some r = e in cc

  pub resizer-under_way : (work : Option (Work K V A)) (z : Resizer) → resizer_in work ≡ Some z → work ≡ Some (Resize z)
  resizer-under_way None z e = let f : None ≡ Some z = e in cc
  resizer-under_way (Some (Call q)) z e = let f : None ≡ Some z = e in cc
  resizer-under_way (Some (Resize y)) z e = ap (λ (x : Resizer). Some (Resize x)) (same_item y z e)
  resizer-under_way (Some (Scan v)) z e = let f : None ≡ Some z = e in cc

  pub scanner-under_way : (work : Option (Work K V A)) (v : Scanning A) → scanner_in work ≡ Some v → work ≡ Some (Scan v)
  scanner-under_way None v e = let f : None ≡ Some v = e in cc
  scanner-under_way (Some (Call q)) v e = let f : None ≡ Some v = e in cc
  scanner-under_way (Some (Resize z)) v e = let f : None ≡ Some v = e in cc
  scanner-under_way (Some (Scan u)) v e = ap (λ (x : Scanning A). Some (Scan x)) (same_item u v e)

  -- a seat that was added leaves each caller's call, and so does work that was put into another's seat
  pub running-with_seat : (seats : List (Seat K V A)) (caller other : ℕ) → running (with_seat seats caller) other ≡ running seats other
  running-with_seat seats caller other = ap call_in (working-with_seat seats caller other)

  pub resizing-with_seat : (seats : List (Seat K V A)) (caller other : ℕ) → resizing (with_seat seats caller) other ≡ resizing seats other
  resizing-with_seat seats caller other = ap resizer_in (working-with_seat seats caller other)

  pub scanning-with_seat : (seats : List (Seat K V A)) (caller other : ℕ) → scanning (with_seat seats caller) other ≡ scanning seats other
  scanning-with_seat seats caller other = ap scanner_in (working-with_seat seats caller other)

  pub running-elsewhere : (seats : List (Seat K V A)) (caller other : ℕ) (work : Option (Work K V A)) → other ≢ caller
      → running (with_work seats caller work) other ≡ running seats other
  running-elsewhere seats caller other work differ = ap call_in (working-other seats caller other work differ)

  pub resizing-elsewhere : (seats : List (Seat K V A)) (caller other : ℕ) (work : Option (Work K V A)) → other ≢ caller
      → resizing (with_work seats caller work) other ≡ resizing seats other
  resizing-elsewhere seats caller other work differ = ap resizer_in (working-other seats caller other work differ)

  pub scanning-elsewhere : (seats : List (Seat K V A)) (caller other : ℕ) (work : Option (Work K V A)) → other ≢ caller
      → scanning (with_work seats caller work) other ≡ scanning seats other
  scanning-elsewhere seats caller other work differ = ap scanner_in (working-other seats caller other work differ)

  pub running-other : (seats : List (Seat K V A)) (caller other : ℕ) (call : Option (Running K V A)) → other ≢ caller
      → running (with_call seats caller call) other ≡ running seats other
  running-other seats caller other call differ = running-elsewhere seats caller other (as_work call) differ

  -- a caller's work is the work that was put into its seat
  pub running-here : (seats : List (Seat K V A)) (caller : ℕ) (work : Option (Work K V A)) (r : Running K V A)
      → running (with_work seats caller work) caller ≡ Some r → work ≡ Some (Call r)
  running-here seats caller work r e = working-same seats caller work (Call r) (call-under_way (working (with_work seats caller work) caller) r e)

  pub resizing-here : (seats : List (Seat K V A)) (caller : ℕ) (work : Option (Work K V A)) (z : Resizer)
      → resizing (with_work seats caller work) caller ≡ Some z → work ≡ Some (Resize z)
  resizing-here seats caller work z e = working-same seats caller work (Resize z) (resizer-under_way (working (with_work seats caller work) caller) z e)

  pub scanning-here : (seats : List (Seat K V A)) (caller : ℕ) (work : Option (Work K V A)) (v : Scanning A)
      → scanning (with_work seats caller work) caller ≡ Some v → work ≡ Some (Scan v)
  scanning-here seats caller work v e = working-same seats caller work (Scan v) (scanner-under_way (working (with_work seats caller work) caller) v e)

  -- a caller whose work was taken out has none
  pub idle-here : (seats : List (Seat K V A)) (caller : ℕ) → working (with_work seats caller None) caller ≡ None
  idle-here seats caller = none (working (with_work seats caller None) caller) refl
    where
      none : (work : Option (Work K V A)) → working (with_work seats caller None) caller ≡ work → work ≡ None
      none None e = refl
      none (Some w) e = let f : None ≡ Some w = working-same seats caller None w e in absurd cc

  -- work that a caller has under way afterwards, it had before
  pub left-working : (seats : List (Seat K V A)) (caller other : ℕ) (w : Work K V A) → working (with_work seats caller None) other ≡ Some w
      → (other ≢ caller) × (working seats other ≡ Some w)
  left-working seats caller other w e =
      let differ : other ≢ caller = λ same. (let f : None ≡ Some w = sym (idle-here seats caller)
      ∙ ap (working (with_work seats caller None)) (sym same) ∙ e in absurd cc) in
      (differ, sym (working-other seats caller other None differ) ∙ e)

  -- the same for a call on one key; then it is no resizer and no scanner
  pub call-put : (call : Option (Running K V A)) (r : Running K V A) → as_work call ≡ Some (Call r) → call ≡ Some r
  call-put None r e = let f : None ≡ Some (Call r) = e in cc
  call-put (Some q) r e = ap call_in e

  pub no-resizer : (call : Option (Running K V A)) (z : Resizer) → as_work call ≡ Some (Resize z) → ⊥
  no-resizer None z e = let f : None ≡ Some (Resize z) = e in absurd cc
  no-resizer (Some q) z e = let f : Some q ≡ None = ap call_in e in absurd cc

  pub no-scanner : (call : Option (Running K V A)) (v : Scanning A) → as_work call ≡ Some (Scan v) → ⊥
  no-scanner None v e = let f : None ≡ Some (Scan v) = e in absurd cc
  no-scanner (Some q) v e = let f : Some q ≡ None = ap call_in e in absurd cc

  pub running-same : (seats : List (Seat K V A)) (caller : ℕ) (call : Option (Running K V A)) (r : Running K V A)
      → running (with_call seats caller call) caller ≡ Some r → call ≡ Some r
  running-same seats caller call r e = call-put call r (running-here seats caller (as_work call) r e)
