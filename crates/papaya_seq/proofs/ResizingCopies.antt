-- A call that resizes the map continues while a loop copies.
use Rattle.std.proofs.Common.{◌≡◌, ℕ, ◌≤◌, Bool, true, FitsSigned, List, [], ◌∷◌, Option, None, Some, refl, sym, subst, arith}
use Rattle.std.specs.Cmp.{IsEquivalence}
use Rattle.std.specs.Int.{w64}
use Rattle.papaya_call.specs.declared.copy_ask.CopyAsk.{CopyAsk}
use Rattle.papaya_call.specs.declared.chain.ask.Answer.{Answer}
use Rattle.papaya_call.specs.declared.chain.resizer.Resize.{Resize}
use Rattle.papaya_call.specs.declared.chain.resizer.Resizer.{Resizer}
use Rattle.papaya_call.specs.Resizer.{after, ask_of}
use Rattle.papaya_words_keys.specs.Hashes.{hash_of}
use Rattle.papaya_core_store.specs.Store.{StoreState}
use Rattle.papaya_core_timeline.proofs.ResizerStands.{resizer_stands}
use Rattle.papaya_seq.specs.Copies.{Copies, IsSized}
use Rattle.papaya_seq.specs.Map.{IsLawfulMap, MapState}
use Rattle.papaya_seq.proofs.ResizerRun.{IsResizingTo, resized_lawful, resized_replied, resizing_fit, resizing_more, resizing_nears}
use Rattle.papaya_seq.proofs.ResizerSteps.{asking_goes, resizer_left}

module _ {K V S H : Type 0} (eq : K → K → Bool) (input : K → List (List ℕ)) (build : S → H) (write : H → List ℕ → H) (finish : H → ℕ)
    (classes : IsEquivalence eq) (respects : (x y : K) → eq x y ≡ true → input x ≡ input y) (s : MapState K V S) (resize : Resize)
    (lawful : IsLawfulMap eq (hash_of input build write finish s.store.hasher) s.store s.mode s.initial) (fits : FitsSigned w64 s.store.count.sum) where
  abbrev hash : S → K → ℕ
  hash = hash_of input build write finish

  abbrev IsGoing : StoreState K V S → Resizer → Type 0
  IsGoing store z = IsResizingTo eq hash s resize store z

  -- its tables have the sizes of tables
  pub resizing_sized : (store : StoreState K V S) (z : Resizer) → IsGoing store z → IsSized store
  resizing_sized store z now = by_ask (ask_of z) refl
    where
      by_ask : (o : Option CopyAsk) → ask_of z ≡ o → IsSized store
      by_ask (Some ask) e = (now.came.lone (asking_goes z ask e)).lawful.core.sizes
      by_ask None e =
          let (reply, told) = resized_replied eq input build write finish classes respects s resize lawful fits store z now e in
          (resized_lawful eq input build write finish classes respects s resize lawful fits store z now reply told).lawful.core.sizes

  -- it continues after each answer, and comes nearer its end
  pub resizing_copies : (told : List Answer) (store : StoreState K V S) (z : Resizer) (store' : StoreState K V S) (z' : Resizer)
      → Copies eq hash ask_of after told store z store' z' → IsGoing store z → IsGoing store' z' × (resizer_left store' z' ≤ resizer_left store z)
  resizing_copies [] store z store' z' (same, is) now =
      subst (λ x. IsGoing x z' × (resizer_left x z' ≤ resizer_left store z)) (sym same)
      (subst (λ (y : Resizer). IsGoing store y × (resizer_left store y ≤ resizer_left store z)) (sym is) (now, omega arith))
  resizing_copies (answer ∷ rest) store z store' z' (copy, asked, middle, performs, more) now =
      let fit = resizing_fit eq input build write finish classes respects s resize lawful fits store z copy answer middle asked performs now in
      let nearer = resizing_nears eq input build write finish classes respects s resize lawful fits store z copy answer middle asked performs now in
      let next = resizing_more eq input build write finish classes respects s resize lawful fits store z copy answer middle asked performs now
      (resizer_stands z answer now.valid fit) in
      let (end, near) = resizing_copies rest middle (after z answer) store' z' more next in
      (end, omega (arith, near, nearer))
