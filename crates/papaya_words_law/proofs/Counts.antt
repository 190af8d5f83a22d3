-- How many pairs one table has after each exchange, while no table has a next one.
use Rattle.std.proofs.Common.{◌≡◌, ⊎_elim, ℕ, zero, suc, ◌+◌, ◌<◌, Option, Some, length, refl, sym, ap, ◌∙◌, subst, arith}
use Rattle.papaya_words_law.specs.Exchange.{Word, Live, Buried, Setting, State, Exchange, Open, Claim}
use Rattle.papaya_words_law.specs.Exchange.{Replace, Bury, Link, Mark, Close, Place, Finish, Advance}
use Rattle.papaya_words_law.specs.Exchange.{Promote, Abort, Take, after, slot_put, walk}
use Rattle.papaya_words_law.specs.View.{IsReached}
use Rattle.papaya_words_law.specs.Allows.{Allows}
use Rattle.papaya_words_law.specs.Meaning.{IsLawful}
use Rattle.papaya_words_law.specs.Class.{IsOn}
use Rattle.papaya_words_law.specs.Invariant.{IsKeeping, named}
use Rattle.papaya_words_law.specs.Content.{pairs_of_word, pairs_in, content, IsCountAfter}
use Rattle.papaya_words_law.proofs.Slots.{put_there, put_elsewhere}
use Rattle.papaya_words_law.proofs.Lists.{table_empty, table_change}
use Rattle.papaya_words_law.proofs.OneMap.{keeping_sound}
use Rattle.papaya_words_law.proofs.Content.{empty_off, no_content}

module _ {K P : Type 0} (g : Setting K P) (law : IsLawful g) (s : State P) (m : K → Option P) (keeps : IsKeeping g s m) (alone : (t : ℕ) → s.next t ≡ 0) where
  -- no table has a link
  no_walk : (n t u : ℕ) → walk s.next (suc n) t ≡ u → 0 < u → ⊥
  no_walk n t u is some = let z = alone (walk s.next n t) in omega (arith, is, some, z)

  -- so a table that is reached along links is the one where they begin
  short_walk : (n t u : ℕ) → walk s.next n t ≡ u → 0 < u → t ≡ u
  short_walk zero t u is some = is
  short_walk (suc n) t u is some = absurd (no_walk n t u is some)

  -- the chain has one table
  on_first : (t : ℕ) → IsOn s.first s.next t → s.first ≡ t
  on_first t on = short_walk on.1.0 s.first t on.1.1 on.0

  -- a search stays in the root
  reached_root : (k : K) (t : ℕ) → IsReached g s k t → t ≡ s.root
  reached_root k t r =
      let sound = keeping_sound g s m keeps in
      let from : r.from ≡ t = short_walk r.links r.from t r.is r.made in
      let was = sound.was r.from r.was in
      ⊎_elim
      (λ none. absurd (let low = was.1 in let z = none.0 in let some = r.made in omega (arith, low, z, some, from)))
      (λ on. sym from ∙ sym (on_first r.from was.0) ∙ on_first s.root on)
      sound.root

  -- the root's table after a word is put into one of its slots
  put_count : (t x : ℕ) (w : Word P) → t ≡ s.root → x < g.size t
      → length (content g (slot_put s t x w)) + length (pairs_of_word (s.slot t x)) ≡ length (content g s) + length (pairs_of_word w)
  put_count t x w root lt =
      let change = table_change g (s.slot s.root) ((slot_put s t x w).slot s.root) x (g.size s.root)
      (λ y other. put_elsewhere s t x w s.root y (λ e. other (sym e.1))) (subst (λ u. x < g.size u) root lt) in
      let there = put_there s t x w s.root x (root, refl) in
      let new : length (pairs_of_word ((slot_put s t x w).slot s.root x)) ≡ length (pairs_of_word w) = ap (λ v. length (pairs_of_word v)) there.0 in
      let old : length (pairs_of_word (s.slot s.root x)) ≡ length (pairs_of_word (s.slot t x)) = ap (λ v. length (pairs_of_word v)) there.1 in
      omega (arith, change, new, old)

  -- if a word names a pair, its slot is one of the table
  slot_within : (t x : ℕ) (p : P) (w : Word P) → s.slot t x ≡ w → named w ≡ Some p → x < g.size t
  slot_within t x p w e name = let o = (keeping_sound g s m keeps).placed t x p (ap named e ∙ name) in
      subst (λ y. y < g.size t) o.is (law.within (g.key p) t o.at o.within)

  -- a table that isn't there has no pair
  opened : (t : ℕ) → s.root ≡ 0 → 0 < t → pairs_in (s.slot t) (g.size t) ≡ pairs_in (s.slot s.root) (g.size s.root)
  opened t none some =
      let first : s.first ≡ 0 = ⊎_elim (λ h. h.1) (λ on. absurd (let z = on.0 in omega (arith, z, none))) (keeping_sound g s m keeps).root in
      table_empty g (s.slot t) (g.size t) (empty_off g law s m keeps t (λ on. let e = on_first t on in omega (arith, e, first, some)))
      ∙ sym (no_content g law s m keeps none)

  -- each exchange
  pub count_after : (e : Exchange P) → Allows g s e → IsCountAfter e (length (content g s)) (length (content g (after s e)))
  count_after (Open t) may = ap length (opened t may.0 may.1)
  count_after (Claim t x p) may =
      let root = reached_root (g.key p) t may.reached in
      let lt : x < g.size t = subst (λ y. y < g.size t) may.place.is (law.within (g.key p) t may.place.at may.place.within) in
      let c = put_count t x (Live p) root lt in
      let old : length (pairs_of_word (s.slot t x)) ≡ 0 = ap (λ w. length (pairs_of_word w)) may.empty in
      omega (arith, c, old)
  count_after (Replace t x p q) may =
      let c = put_count t x (Live q) (reached_root (g.key p) t may.reached) (slot_within t x p (Live p) may.live refl) in
      let old : length (pairs_of_word (s.slot t x)) ≡ 1 = ap (λ w. length (pairs_of_word w)) may.live in
      omega (arith, c, old)
  count_after (Bury t x p) may =
      let c = put_count t x (Buried p) (reached_root (g.key p) t may.reached) (slot_within t x p (Live p) may.live refl) in
      let old : length (pairs_of_word (s.slot t x)) ≡ 1 = ap (λ w. length (pairs_of_word w)) may.live in
      omega (arith, c, old)
  count_after (Link t n) may = refl
  count_after (Mark t x p) may = absurd (let some = may.further in let z = alone t in omega (arith, some, z))
  count_after (Close t x) may = absurd (let some = may.further in let z = alone t in omega (arith, some, z))
  count_after (Place n x p) may = absurd (no_walk may.source.taker.links may.source.from n may.source.taker.is may.source.taker.made)
  count_after (Finish t x p) may = absurd (no_walk may.taker.links t may.to may.taker.is may.taker.made)
  count_after (Advance n c) may = refl
  count_after (Promote t n) may = absurd (no_walk may.target.links t n may.target.is may.target.made)
  count_after (Abort n) may = refl
  count_after (Take n) may = refl
