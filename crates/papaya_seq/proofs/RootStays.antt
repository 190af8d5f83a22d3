-- A map that has a root has one after further exchanges.
use Rattle.std.proofs.Common.{◌≡◌, ℕ, ◌<◌, Bool, List, ◌++◌, arith}
use Rattle.papaya_core_store.specs.declared.store.Mode.{Mode}
use Rattle.papaya_call.specs.declared.ask.At.TheVariants.{Root}
use Rattle.papaya_words_law.specs.Code.{IsHashed}
use Rattle.papaya_words_law.specs.Exchange.{Exchange, Setting, run, start}
use Rattle.papaya_words_law.proofs.Moments.{allowed_first}
use Rattle.papaya_words_law.proofs.OneMap.{later, sound}
use Rattle.papaya_core_store.specs.Store.{StoreState, Stored}
use Rattle.papaya_core_timeline.specs.Core.{IsCore}
use Rattle.papaya_core_timeline.specs.Kept.{CallTrace, IsConsistent, coding_of, low, setting_of}
use Rattle.papaya_core_timeline.specs.declared.seat.Seat.{Seat}
use Rattle.papaya_core_timeline.proofs.KeptSettings.{IsLawfulKeys, tables_hashed}

module _ {K V S A : Type 0} (eq : K → K → Bool) (hash : K → ℕ) (keys : IsLawfulKeys eq hash) (mode : Mode) (store store' : StoreState K V S)
    (callers callers' : List (Seat K V A)) where
  pub root_stays : (es made : List (Exchange (Stored K V))) (call_traces call_traces' : ℕ → CallTrace K V)
      → IsConsistent eq hash mode store callers es call_traces → IsCore store' callers' mode → IsConsistent eq hash mode store' callers' (es ++ made) call_traces'
      → 0 < store.words.root → 0 < store'.words.root
  root_stays es made call_traces call_traces' kept core kept' some =
      let g : Setting K (Stored K V) = setting_of eq (low hash) mode store'.words.tables in
      let hashed : IsHashed g (coding_of (low hash)) = tables_hashed {V = V} eq hash keys mode store'.words.tables core.sizes in
      let was_is : (run es start).root ≡ store.words.root = kept.coded Root in
      let now_is : (run (es ++ made) start).root ≡ store'.words.root = kept'.coded Root in
      let there : 0 < (run es start).root = omega (arith, some, was_is) in
      let was = (sound g hashed.lawful es (allowed_first g es made start kept'.allowed)).root_was there in
      let far = ((sound g hashed.lawful (es ++ made) kept'.allowed).was (run es start).root
      ((later g hashed.lawful es made kept'.allowed).was (run es start).root was)).1 in
      omega (arith, there, far, now_is)
