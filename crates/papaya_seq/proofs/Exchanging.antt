-- An exchange that finds its expected word.
use Rattle.std.proofs.Common.{◌≡◌, ℕ, ◌==◌, true, MatchBool, refl, sym, subst, eq-eqb}
use Rattle.papaya_call.specs.declared.ask.Answer.{Answer}
use Rattle.papaya_call.specs.declared.ask.Answer.TheVariants.{Exchanged, Found as Found_instead}
use Rattle.papaya_call.specs.declared.ask.At.{At}
use Rattle.papaya_core_store.specs.Performs.{Exchanges}
use Rattle.papaya_core_store.specs.Store.{StoreState}
use Rattle.papaya_core_store.specs.Tables.{put, word_at}
use Rattle.papaya_core_timeline.proofs.StoreLemmas.{matched}

module _ {K V S : Type 0} (s : StoreState K V S) (at : At) (old new : ℕ) (stands : word_at s.words at ≡ old) where
  -- it may be made
  pub exchange_made : Exchanges (word_at s.words at) old (put s.words at new) Exchanged s (record s { words = put s.words at new })
  exchange_made =
      subst (λ b. MatchBool b ((Exchanged ≡ Exchanged) × (record s { words = put s.words at new } ≡ record s { words = put s.words at new }))
      ((Exchanged ≡ Found_instead (word_at s.words at)) × (record s { words = put s.words at new } ≡ s)))
      (sym (eq-eqb (word_at s.words at) old stands)) (refl, refl)

  -- and was made
  pub exchange_done : (s' : StoreState K V S) (told : Answer) → Exchanges (word_at s.words at) old (put s.words at new) told s s'
      → s' ≡ record s { words = put s.words at new }
  exchange_done s' told made =
      matched (s' ≡ record s { words = put s.words at new }) (word_at s.words at == old) _ _ made
      (λ _ done. done.1)
      (λ missed lost. let hit : (word_at s.words at == old) ≡ true = eq-eqb (word_at s.words at) old stands in absurd cc)
