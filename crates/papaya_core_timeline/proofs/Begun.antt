-- A call as it begins: on one key, to resize the map, or to scan a table.
use Rattle.std.proofs.Common.{rules, ◌≡◌, ℕ, List, Option, None, Some, true, false, refl, sym, ◌∙◌, ap}
use Rattle.papaya_call.specs.declared.call.Call.{Call}
use Rattle.papaya_call.specs.declared.call.Call.TheVariants.{Get, Insert, TryInsert, RemoveIf, Compute, Reserve, CopyAll, Clear, Retain, Walk}
use Rattle.papaya_call.specs.declared.call.Task.{Task}
use Rattle.papaya_call.specs.declared.call.Task.TheVariants as tasks
use Rattle.papaya_call.specs.declared.chain.resizer.Resize.{Resize}
use Rattle.papaya_call.specs.declared.chain.resizer.Resize.TheVariants as resizes
use Rattle.papaya_call.specs.declared.chain.resizer.Resizer.{Resizer}
use Rattle.papaya_call.specs.Resizer as resizer
use Rattle.papaya_core_store.specs.declared.pairs.Running.{Running}
use Rattle.papaya_core_timeline.specs.declared.seat.Work.{Work}
use Rattle.papaya_core_timeline.specs.declared.seat.Work.TheVariants as works
use Rattle.papaya_core_timeline.specs.Begins.{answers_of_call, begun, begun_work, handed, scanner_begun, task_of_call, value_of_call}
use Rattle.papaya_core_timeline.specs.Callers.{call_in, resizer_in, scanner_in}
use Rattle.papaya_core_timeline.specs.Kept.{HasAnswers}
use Rattle.papaya_core_timeline.specs.Maps.{key_of}
use Rattle.papaya_call.specs.declared.chain.scanner.Scan.{Scan}
use Rattle.papaya_call.specs.declared.chain.scanner.Scan.TheVariants as scans
use Rattle.papaya_core_store.specs.declared.scans.Scanning.{Scanning}
use Rattle.papaya_core_timeline.proofs.CallersLemmas.{same_item}
use Rattle.papaya_core_store.specs.declared.store.Mode.{Mode}
use Rattle.papaya_words.specs.declared.resize_mode.ResizeMode.{ResizeMode}
use Rattle.papaya_call.specs.Machine as calls
use Rattle.papaya_call_law.specs.Says.{ClosureResult, ActsOn}
use Rattle.papaya_core_store.specs.declared.pairs.Pair.{Pair}
use Rattle.papaya_core_store.specs.declared.pairs.Part.{Part}
use Rattle.papaya_core_store.specs.declared.pairs.Part.TheVariants.{Own}
use Rattle.papaya_core_store.specs.Pairs.{value_in}

-- the task of a call on a key; a call on no key has the task of a lookup
abbrev pub the_task : {K V A : Type 0} → Call K V A → Task
the_task (Get k) = tasks.Get
the_task (Insert k v) = tasks.Insert true
the_task (TryInsert k v) = tasks.Insert false
the_task (RemoveIf k a) = tasks.RemoveIf
the_task (Compute k a) = tasks.Compute
the_task (Reserve more) = tasks.Get
the_task CopyAll = tasks.Get
the_task Clear = tasks.Get
the_task (Retain a) = tasks.Get
the_task Walk = tasks.Get

-- it is the call's own, if the call has one
pub task_is_own : {K V A : Type 0} (call : Call K V A) (task : Task) → task_of_call call ≡ Some task → task ≡ the_task call
task_is_own (Get k) task e = sym (same_item tasks.Get task e)
task_is_own (Insert k v) task e = sym (same_item (tasks.Insert true) task e)
task_is_own (TryInsert k v) task e = sym (same_item (tasks.Insert false) task e)
task_is_own (RemoveIf k a) task e = sym (same_item tasks.RemoveIf task e)
task_is_own (Compute k a) task e = sym (same_item tasks.Compute task e)
task_is_own (Reserve more) task e = let f : None ≡ Some task = e in absurd cc
task_is_own CopyAll task e = let f : None ≡ Some task = e in absurd cc
task_is_own Clear task e = let f : None ≡ Some task = e in absurd cc
task_is_own (Retain a) task e = let f : None ≡ Some task = e in absurd cc
task_is_own Walk task e = let f : None ≡ Some task = e in absurd cc

module _ {K V A : Type 0} (hash : K → ℕ) (mode : Mode) (initial number : ℕ) where
  -- a call on a key
  pub record IsBegun (call : Call K V A) (r : Running K V A) : Type 0 where
    pub key : K
    pub task : Task
    pub key_is : key_of call ≡ Some key
    pub task_is : task_of_call call ≡ Some task
    pub is : r ≡ begun hash mode initial number task key (value_of_call call) (answers_of_call call)

  -- a call that resizes the map
  pub record IsResizeBegun (call : Call K V A) (z : Resizer) : Type 0 where
    pub resize : Resize
    pub no_key : key_of call ≡ None
    pub is : z ≡ resizer.begun resize mode.resize initial number

  -- a call that scans a table
  pub record IsScanBegun (call : Call K V A) (v : Scanning A) : Type 0 where
    pub scan : Scan
    pub no_key : key_of call ≡ None
    pub has : HasAnswers scan (answers_of_call call)
    pub is : v ≡ scanner_begun mode.resize initial number scan (answers_of_call call)

  -- the work in a seat is the work that was put there
  same_call : (q r : Running K V A) (w : Work K V A) → w ≡ works.Call q → w ≡ works.Call r → r ≡ q
  same_call q r w is e = sym (same_item q r (ap (λ (w : Work K V A). call_in (Some w)) (sym is ∙ e)))

  same_resizer : (y z : Resizer) (w : Work K V A) → w ≡ works.Resize y → w ≡ works.Resize z → z ≡ y
  same_resizer y z w is e = sym (same_item y z (ap (λ (w : Work K V A). resizer_in (Some w)) (sym is ∙ e)))

  no_call : (y : Resizer) (r : Running K V A) (w : Work K V A) → w ≡ works.Resize y → w ≡ works.Call r → ⊥
  no_call y r w is e = let f : None ≡ Some r = ap (λ (w : Work K V A). call_in (Some w)) (sym is ∙ e) in absurd cc

  no_resizer : (r : Running K V A) (z : Resizer) (w : Work K V A) → w ≡ works.Call r → w ≡ works.Resize z → ⊥
  no_resizer r z w is e = let f : Some r ≡ None = ap (λ (w : Work K V A). call_in (Some w)) (sym is ∙ e) in absurd cc

  same_scanner : (u v : Scanning A) (w : Work K V A) → w ≡ works.Scan u → w ≡ works.Scan v → v ≡ u
  same_scanner u v w is e = sym (same_item u v (ap (λ (w : Work K V A). scanner_in (Some w)) (sym is ∙ e)))

  call_not_scan : (v : Scanning A) (r : Running K V A) (w : Work K V A) → w ≡ works.Scan v → w ≡ works.Call r → ⊥
  call_not_scan v r w is e = let f : None ≡ Some r = ap (λ (w : Work K V A). call_in (Some w)) (sym is ∙ e) in absurd cc

  resizer_not_scan : (v : Scanning A) (z : Resizer) (w : Work K V A) → w ≡ works.Scan v → w ≡ works.Resize z → ⊥
  resizer_not_scan v z w is e = let f : None ≡ Some z = ap (λ (w : Work K V A). resizer_in (Some w)) (sym is ∙ e) in absurd cc

  scan_not_call : (r : Running K V A) (v : Scanning A) (w : Work K V A) → w ≡ works.Call r → w ≡ works.Scan v → ⊥
  scan_not_call r v w is e = let f : None ≡ Some v = ap (λ (w : Work K V A). scanner_in (Some w)) (sym is ∙ e) in absurd cc

  scan_not_resizer : (z : Resizer) (v : Scanning A) (w : Work K V A) → w ≡ works.Resize z → w ≡ works.Scan v → ⊥
  scan_not_resizer z v w is e = let f : None ≡ Some v = ap (λ (w : Work K V A). scanner_in (Some w)) (sym is ∙ e) in absurd cc

  pub call_begun : (call : Call K V A) (r : Running K V A) → begun_work hash mode initial number call ≡ works.Call r → IsBegun call r
  call_begun (Get k) r e = record {
    key = k;
    task = tasks.Get;
    key_is = refl;
    task_is = refl;
    is = same_call
        (begun hash mode initial number tasks.Get k None None) r _ refl e;
  }
  call_begun (Insert k v) r e = record {
    key = k;
    task = tasks.Insert true;
    key_is = refl;
    task_is = refl;
    is = same_call
        (begun hash mode initial number (tasks.Insert true) k (Some v) None) r _ refl e;
  }
  call_begun (TryInsert k v) r e = record {
    key = k;
    task = tasks.Insert false;
    key_is = refl;
    task_is = refl;
    is = same_call
        (begun hash mode initial number (tasks.Insert false) k (Some v) None) r _ refl e;
  }
  call_begun (RemoveIf k a) r e = record {
    key = k;
    task = tasks.RemoveIf;
    key_is = refl;
    task_is = refl;
    is = same_call
        (begun hash mode initial number tasks.RemoveIf k None (Some a)) r _ refl e;
  }
  call_begun (Compute k a) r e = record {
    key = k;
    task = tasks.Compute;
    key_is = refl;
    task_is = refl;
    is = same_call
        (begun hash mode initial number tasks.Compute k None (Some a)) r _ refl e;
  }
  call_begun (Reserve more) r e = absurd (no_call (resizer.begun (resizes.Reserve more) mode.resize initial number) r _ refl e)
  call_begun CopyAll r e = absurd (no_call (resizer.begun resizes.CopyAll mode.resize initial number) r _ refl e)
  call_begun Clear r e = absurd (call_not_scan (scanner_begun mode.resize initial number scans.Clear None) r _ refl e)
  call_begun (Retain a) r e = absurd (call_not_scan (scanner_begun mode.resize initial number scans.Retain (Some a)) r _ refl e)
  call_begun Walk r e = absurd (call_not_scan (scanner_begun mode.resize initial number scans.Walk None) r _ refl e)

  pub resizer_begun_is : (call : Call K V A) (z : Resizer) → begun_work hash mode initial number call ≡ works.Resize z → IsResizeBegun call z
  resizer_begun_is (Get k) z e = absurd (no_resizer (begun hash mode initial number tasks.Get k None None) z _ refl e)
  resizer_begun_is (Insert k v) z e = absurd (no_resizer (begun hash mode initial number (tasks.Insert true) k (Some v) None) z _ refl e)
  resizer_begun_is (TryInsert k v) z e = absurd (no_resizer (begun hash mode initial number (tasks.Insert false) k (Some v) None) z _ refl e)
  resizer_begun_is (RemoveIf k a) z e = absurd (no_resizer (begun hash mode initial number tasks.RemoveIf k None (Some a)) z _ refl e)
  resizer_begun_is (Compute k a) z e = absurd (no_resizer (begun hash mode initial number tasks.Compute k None (Some a)) z _ refl e)
  resizer_begun_is (Reserve more) z e = record {
    resize = resizes.Reserve more;
    no_key = refl;
    is = same_resizer
        (resizer.begun (resizes.Reserve more) mode.resize initial number) z _ refl e;
  }
  resizer_begun_is CopyAll z e = record {
    resize = resizes.CopyAll;
    no_key = refl;
    is = same_resizer
        (resizer.begun resizes.CopyAll mode.resize initial number) z _ refl e;
  }
  resizer_begun_is Clear z e = absurd (resizer_not_scan (scanner_begun mode.resize initial number scans.Clear None) z _ refl e)
  resizer_begun_is (Retain a) z e = absurd (resizer_not_scan (scanner_begun mode.resize initial number scans.Retain (Some a)) z _ refl e)
  resizer_begun_is Walk z e = absurd (resizer_not_scan (scanner_begun mode.resize initial number scans.Walk None) z _ refl e)

  pub scanner_begun_is : (call : Call K V A) (v : Scanning A) → begun_work hash mode initial number call ≡ works.Scan v → IsScanBegun call v
  scanner_begun_is (Get k) v e = absurd (scan_not_call (begun hash mode initial number tasks.Get k None None) v _ refl e)
  scanner_begun_is (Insert k w) v e = absurd (scan_not_call (begun hash mode initial number (tasks.Insert true) k (Some w) None) v _ refl e)
  scanner_begun_is (TryInsert k w) v e = absurd (scan_not_call (begun hash mode initial number (tasks.Insert false) k (Some w) None) v _ refl e)
  scanner_begun_is (RemoveIf k a) v e = absurd (scan_not_call (begun hash mode initial number tasks.RemoveIf k None (Some a)) v _ refl e)
  scanner_begun_is (Compute k a) v e = absurd (scan_not_call (begun hash mode initial number tasks.Compute k None (Some a)) v _ refl e)
  scanner_begun_is (Reserve more) v e = absurd (scan_not_resizer (resizer.begun (resizes.Reserve more) mode.resize initial number) v _ refl e)
  scanner_begun_is CopyAll v e = absurd (scan_not_resizer (resizer.begun resizes.CopyAll mode.resize initial number) v _ refl e)
  scanner_begun_is Clear v e = record {
    scan = scans.Clear;
    no_key = refl;
    has = tt;
    is = same_scanner
        (scanner_begun mode.resize initial number scans.Clear None) v _ refl e;
  }
  scanner_begun_is (Retain a) v e = record {
    scan = scans.Retain;
    no_key = refl;
    has = (a, refl);
    is = same_scanner
        (scanner_begun mode.resize initial number scans.Retain (Some a)) v _ refl e;
  }
  scanner_begun_is Walk v e = record {
    scan = scans.Walk;
    no_key = refl;
    has = tt;
    is = same_scanner
        (scanner_begun mode.resize initial number scans.Walk None) v _ refl e;
  }

-- a call that begins depends on no result of its closure
pub begun_stands : (task : Task) (hash : ℕ) (mode : ResizeMode) (initial : ℕ) (limit : Option ℕ) (said : ClosureResult)
    → ActsOn (calls.started task hash mode initial limit) said → ⊥
begun_stands task hash mode initial limit said stands = search rules

-- the value that was passed in is available
pub handed_there : {K V : Type 0} (log : List (Pair K V)) (o : Option V) (part : Part V) → handed o ≡ Some part → (v : V) × (value_in log part ≡ Some v)
handed_there log None part e = let f : None ≡ Some part = e in absurd cc
handed_there {K} {V} log (Some v) part e = let f : Own v ≡ part = same_item (Own v) part e in (v, ap (value_in log) (sym f))
