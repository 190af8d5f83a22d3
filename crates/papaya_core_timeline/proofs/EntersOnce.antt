-- A pair enters the map at most once, so one that has left it does not come back.
use Rattle.std.proofs.Common.{◌≡◌, ◌⊎◌, inl, inr, ⊎_elim, ℕ, Bool, true, false, Option, None, Some, List, [], ◌∷◌, ◌++◌, sym, ◌∙◌, subst}
use Rattle.std.proofs.lemmas.Bool.{cases_Bool}
use Rattle.papaya_core_store.specs.Store.{Stored}
use Rattle.papaya_core_timeline.specs.declared.trace.Event.{Event}
use Rattle.papaya_core_timeline.specs.declared.trace.Event.TheVariants.{Begun, Changed, Moved, Asked, Shown, Gave, Other, Replied}
use Rattle.papaya_core_timeline.specs.declared.trace.Turn.{Turn}
use Rattle.papaya_core_timeline.specs.Maps.{Map, Same}
use Rattle.papaya_core_timeline.specs.Runs.{History}
use Rattle.papaya_core_timeline.specs.Timeline.{Answered, IsFresh, IsLegal, IsUnused, Timeline}
use Rattle.papaya_core_timeline.specs.Once.{HaveNot, IsSteady}

module _ {K V : Type 0} where
  -- each pair of a map is in the map before it, or is new
  abbrev Steps : Map K V → List (Map K V) → Map K V → Type 0
  Steps before maps m = (j : K) (p : Stored K V) → m j ≡ Some p → (before j ≡ Some p) ⊎ IsUnused p.number (before ∷ maps)

  same_steps : (before : Map K V) (maps : List (Map K V)) (m : Map K V) → Same before m → Steps before maps m
  same_steps before maps m same j p has = inl (sym (same j) ∙ has)

  came_new : (maps : List (Map K V)) (came : Option (Stored K V)) (p : Stored K V) → IsFresh came maps → came ≡ Some p → IsUnused p.number maps
  came_new maps None p fresh is = absurd cc
  came_new maps (Some q) p fresh is = let one : q ≡ p = cc in subst (λ (r : Stored K V). IsUnused r.number maps) one fresh

module _ {K V A : Type 0} (eq : K → K → Bool) where
  -- each legal event keeps this
  legal_steps : (schedule : List (Turn K V A)) (caller : ℕ) (h : History) (before : Map K V) (maps : List (Map K V)) (m : Map K V) (said : Answered V)
      (event : Event) → IsLegal eq event schedule caller h before maps m said → Steps before maps m
  legal_steps schedule caller h before maps m said (Changed kind old new) change = λ j p has.
      ⊎_elim
      (λ (mine : eq j change.key ≡ true). inr (came_new (before ∷ maps) change.came p change.fresh (sym (change.update.class j mine) ∙ has)))
      (λ (other : eq j change.key ≡ false). inl (sym (change.update.others j other) ∙ has))
      (cases_Bool (eq j change.key))
  legal_steps schedule caller h before maps m said (Asked n agrees) legal = same_steps before maps m legal.0
  legal_steps schedule caller h before maps m said (Shown n kind) legal = same_steps before maps m legal.0
  legal_steps schedule caller h before maps m said (Gave n) legal = same_steps before maps m legal.0
  legal_steps schedule caller h before maps m said (Replied reply) legal = same_steps before maps m legal.0
  legal_steps schedule caller h before maps m said Begun legal = same_steps before maps m legal
  legal_steps schedule caller h before maps m said (Moved kind) legal = same_steps before maps m legal
  legal_steps schedule caller h before maps m said Other legal = same_steps before maps m legal

  -- so does a timeline
  pub timeline_steady : (schedule : List (Turn K V A)) (start : Map K V) (h : History) (maps : List (Map K V)) (said : Answered V)
      → Timeline eq schedule start h maps said → IsSteady maps
  timeline_steady schedule start [] [] said t = tt
  timeline_steady schedule start [] (m ∷ []) [] t = tt
  timeline_steady schedule start [] (m ∷ []) (answered ∷ said) t = absurd t
  timeline_steady schedule start [] (m ∷ m0 ∷ maps) said t = absurd t
  timeline_steady schedule start (e ∷ before) [] said t = tt
  timeline_steady schedule start (e ∷ before) (m ∷ []) said t = tt
  timeline_steady schedule start (e ∷ before) (m ∷ m0 ∷ maps) [] t = absurd t
  timeline_steady schedule start (e ∷ before) (m ∷ m0 ∷ maps) (answered ∷ said) t =
      (legal_steps schedule e.caller before m0 maps m said e.event t.0, timeline_steady schedule start before (m0 ∷ maps) said t.2)

module _ {K V : Type 0} (j : K) (p : Stored K V) (lost : Map K V) (older : List (Map K V)) (not_there : lost j ≡ Some p → ⊥)
    (was : IsUnused p.number older → ⊥) where
  -- a number that no map of a list has, no map of a tail of the list has
  unused_behind : (newer : List (Map K V)) → IsUnused p.number (newer ++ lost ∷ older) → IsUnused p.number older
  unused_behind [] unused = unused.1
  unused_behind (m ∷ newer) unused = unused_behind newer unused.1

  -- once lost, it is in no later map
  pub never_back : (newer : List (Map K V)) → IsSteady (newer ++ lost ∷ older) → HaveNot j p newer
  never_back [] steady = tt
  never_back (m ∷ []) steady = (
    (λ has. ⊎_elim (λ (before : lost j ≡ Some p). not_there before)
        (λ (unused : IsUnused p.number (lost ∷ older)). was unused.1) (steady.0 j p has)),
    tt,
  )
  never_back (m ∷ m0 ∷ newer) steady =
      let rest = never_back (m0 ∷ newer) steady.1 in (
        (λ has. ⊎_elim (λ (before : m0 j ≡ Some p). rest.0 before)
            (λ (unused : IsUnused p.number (m0 ∷ (newer ++ lost ∷ older))). was (unused_behind newer unused.1)) (steady.0 j p has)),
        rest,
      )
