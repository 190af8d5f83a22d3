-- The count stays right after a step of a call that resizes the map.
use Rattle.std.proofs.Common.{◌≡◌, ℕ, pos, ◌+ℤ◌, Bool, List, ◌++◌, length, Option, Some, None, refl, sym, ◌∙◌, ap, arith}
use Rattle.std.proofs.lemmas.Int.{ints}
use Rattle.std.specs.Int.{w64, int_wrap}
use Rattle.papaya_call.specs.declared.call.Reply.{Reply}
use Rattle.papaya_call.specs.Resizer.{after}
use Rattle.papaya_call.specs.declared.chain.ask.Answer.{Answer}
use Rattle.papaya_call.specs.declared.chain.resizer.Resizer.{Resizer}
use Rattle.papaya_words_law.specs.Exchange.{Exchange}
use Rattle.papaya_core_store.specs.Store.{Stored}
use Rattle.papaya_core_timeline.specs.declared.seat.Seat.{Seat}
use Rattle.papaya_core_timeline.specs.declared.seat.Work.{Work}
use Rattle.papaya_core_timeline.specs.declared.seat.Work.TheVariants.{Resize}
use Rattle.papaya_core_timeline.specs.declared.trace.Event.{Event}
use Rattle.papaya_core_timeline.specs.Advances.{goes_on}
use Rattle.papaya_core_timeline.specs.Callers.{working}
use Rattle.papaya_core_timeline.specs.Content.{content}
use Rattle.papaya_core_timeline.specs.Core.{CoreState, IsCore}
use Rattle.papaya_core_timeline.specs.Counted.{IsCounted, owed_in, owed_work}
use Rattle.papaya_core_timeline.specs.Kept.{CallTrace, IsConsistent, low, setting_of}
use Rattle.papaya_core_timeline.specs.Resizes.{Resizes}
use Rattle.papaya_core_timeline.proofs.CallersLemmas.{resizer-under_way}
use Rattle.papaya_core_timeline.proofs.CountedContent.{content_apart}
use Rattle.papaya_core_timeline.proofs.CountedSeats.{owed-with_work}
use Rattle.papaya_core_timeline.proofs.GoodResized.{resize_same}
use Rattle.papaya_core_timeline.proofs.KeptLemmas.{IsLawfulKeys, hashed_setting}
use Rattle.papaya_core_timeline.proofs.KeptResized as resized
use Rattle.papaya_words_law.proofs.FiniteMaps.{one_length}

-- a resizer owes nothing, whether it continues or not
owes_nothing : {K V A : Type 0} (reply : Option Reply) (z : Resizer) (w : Work K V A) → w ≡ Resize z → owed_work (goes_on reply w) ≡ pos 0
owes_nothing None z w is = ap (λ (v : Work _ _ _). owed_work (Some v)) is
owes_nothing (Some reply) z w is = refl

module _ {K V S A : Type 0} (eq : K → K → Bool) (hash : K → ℕ) (law : IsLawfulKeys eq hash) {hashes : S → K → ℕ} (refuse : Bool)
    (s : CoreState K V S A) (caller : ℕ) (s' : CoreState K V S A) (event : Event) (reply : Option Reply)
    (x : Resizes eq hashes refuse s caller s' event reply) (hasher : hashes s.store.hasher ≡ hash)
    (es : List (Exchange (Stored K V))) (call_traces : ℕ → CallTrace K V) (core : IsCore s.store s.callers s.mode)
    (core' : IsCore s'.store s'.callers s'.mode) (kept : IsConsistent eq hash s.mode s.store s.callers es call_traces) where
  -- the work that continues
  abbrev resumed : Resizer → Answer → Work K V A
  resumed z a = Resize (after z a)

  -- the callers owe as much as before
  owed : owed_in s'.callers ≡ owed_in s.callers
  owed =
      let was = owed-with_work s.callers caller (Resize x.before) (resizer-under_way (working s.callers caller) x.before x.was)
      (goes_on reply (Resize (after x.before x.answer))) in
      let none : owed_work (goes_on reply (resumed x.before x.answer)) ≡ pos 0 = owes_nothing reply (after x.before x.answer) _ refl in
      ap (λ (l : List (Seat K V A)). owed_in l) x.callers ∙ omega (arith, ints, was, none)

  -- there are as many pairs
  as_many : length (content eq s'.store) ≡ length (content eq s.store)
  as_many =
      let left = resized.left eq hash law refuse s caller s' event reply x hasher es call_traces core kept in
      let hashed = hashed_setting eq hash law s' core' in
      one_length (setting_of eq (low hash) s'.mode s'.store.words.tables) hashed.lawful (content eq s'.store) (content eq s.store)
      (content_apart eq hash s'.mode s'.store hashed s'.callers (es ++ left.made)
      (resized.call_traces' eq hash law refuse s caller s' event reply x hasher es call_traces core kept)
      (resized.resize_kept eq hash law refuse s caller s' event reply x hasher es call_traces core kept))
      (content_apart eq hash s.mode s.store (hashed_setting eq hash law s core) s.callers es call_traces kept)
      (resize_same eq hash law refuse s s' caller event reply x hasher core core' es call_traces kept)

  pub counted_resize : IsCounted eq s.store s.callers → IsCounted eq s'.store s'.callers
  counted_resize counted =
      ap (λ z. int_wrap w64 (z +ℤ owed_in s'.callers)) (resized.left eq hash law refuse s caller s' event reply x hasher es call_traces core kept).sum_is
      ∙ ap (λ z. int_wrap w64 (s.store.count.sum +ℤ z)) owed
      ∙ counted
      ∙ ap (λ n. pos n) (sym as_many)
