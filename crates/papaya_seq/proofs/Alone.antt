-- The map for one caller after a call that is made alone.
use Rattle.std.proofs.Common.{◌≡◌, ℕ, Bool, true, List, None}
use Rattle.std.specs.Cmp.{IsEquivalence}
use Rattle.papaya_call.specs.declared.call.Call.{Call}
use Rattle.papaya_call.specs.declared.call.Reply.{Reply}
use Rattle.papaya_core_timeline.specs.Content.{map_in}
use Rattle.papaya_core_timeline.specs.Core.{CoreState}
use Rattle.papaya_core_timeline.specs.Solo.{IsAnswered, IsNewIn}
use Rattle.papaya_core_store.specs.Store.{KeepsPairs, StoreState}
use Rattle.papaya_words_keys.specs.Hashes.{hash_of}
use Rattle.papaya_core_timeline.proofs.SoloLaw.{alone_answered, alone_lawful, alone_logged}
use Rattle.papaya_seq.specs.Map.{IsLawfulMap, MapState, core_of}
use Rattle.papaya_seq.proofs.Turns.{IsOver, seated_work}

module _ {K V S H : Type 0} (eq : K → K → Bool) (input : K → List (List ℕ)) (build : S → H) (write : H → List ℕ → H) (finish : H → ℕ)
    (classes : IsEquivalence eq) (respects : (x y : K) → eq x y ≡ true → input x ≡ input y)
    (s : MapState K V S) (call : Call K V (Unit {0})) (reply : Reply) (store : StoreState K V S)
    (lawful : IsLawfulMap eq (hash_of input build write finish s.store.hasher) s.store s.mode s.initial)
    (over : IsOver eq (hash_of input build write finish) s call store reply) where
  -- the core when the call has replied
  abbrev left : CoreState K V S (Unit {0})
  left = seated_work store None s.mode s.initial

  -- the finite map
  pub map_answered : IsAnswered eq call (map_in eq s.store) reply (map_in eq store)
  map_answered = alone_answered eq input build write finish classes respects (core_of s) left call reply lawful.lawful over.ran

  -- the arena of pairs
  pub map_logged : IsNewIn s.store reply × KeepsPairs s.store store
  map_logged = alone_logged eq input build write finish classes respects (core_of s) left call reply lawful.lawful over.ran

  -- the words and the count are in order
  pub map_lawful : IsLawfulMap eq (hash_of input build write finish store.hasher) store s.mode s.initial
  map_lawful = let after = alone_lawful eq input build write finish classes respects (core_of s) left call reply lawful.lawful over.ran lawful.counted
      in record { lawful = after.0; counted = after.1; power = lawful.power; most = lawful.most; long = over.long; numbered = over.numbered }

  -- the hasher stays
  pub map_hasher : store.hasher ≡ s.store.hasher
  map_hasher = (alone_lawful eq input build write finish classes respects (core_of s) left call reply lawful.lawful over.ran lawful.counted).2
