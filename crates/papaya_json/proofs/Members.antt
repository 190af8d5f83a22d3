-- The members of an object that were inserted one by one, none in place of another.
use Rattle.std.proofs.Common.{◌≡◌, ◌⊎◌, inl, inr, ⊎_elim, ℕ, suc, ◌+◌, ◌≤◌, List, [], ◌∷◌, length}
use Rattle.std.proofs.Common.{Ordering, Less, Equal, Greater, nat_cmp, is_eq, string_bytes, refl}
use Rattle.std.proofs.Common.{sym, ap, ◌∙◌, subst, arith}
use Rattle.std.proofs.lemmas.Map.Text.{is_eq-slice_cmp}
use Rattle.std.proofs.lemmas.Slice.Eq.{bytes_eq-Decides}
use Rattle.std.specs.Cmp.Lexicographic.{slice_cmp}
use Rattle.std.specs.Ordering.{match_ordering}
use Rattle.std.specs.Prelude.{fold}
use Rattle.serde_json.specs.Data.{Data, Members, no_members, member, put}
use Rattle.serde_json.specs.Events.{members_len}
use Rattle.serde_json.specs.View.{members_view, view}
use Rattle.papaya_json.specs.Objects.{Entry, Member, object_of}
use Rattle.papaya_json.proofs.Lists.{In}

-- a member of this text and this data
abbrev pub Has : List ℕ → Data → Members → Type 0
Has k d no_members = ⊥
Has k d (member l e ms) = ((l ≡ k) × (e ≡ d)) ⊎ Has k d ms

same_text : (k l : List ℕ) → slice_cmp nat_cmp k l ≡ Equal → k ≡ l
same_text k l is = (bytes_eq-Decides k l).0 (sym (is_eq-slice_cmp k l) ∙ ap is_eq is)

module _ (k : List ℕ) (d : Data) where
  put_at : (o : Ordering) (l m : List ℕ) (e f : Data) (ms : Members) → slice_cmp nat_cmp l m ≡ o → (Has k d (put l e ms) → ((l ≡ k) × (e ≡ d)) ⊎ Has k d ms)
      → Has k d (match_ordering o (member l e (member m f ms)) (member m e ms) (member m f (put l e ms))) → ((l ≡ k) × (e ≡ d)) ⊎ Has k d (member m f ms)
  put_at Less l m e f ms is later has = has
  put_at Equal l m e f ms is later has = ⊎_elim (λ h. inl (same_text l m is ∙ h.0, h.1)) (λ h. inr (inr h)) has
  put_at Greater l m e f ms is later has = ⊎_elim (λ h. inr (inl h)) (λ h. ⊎_elim (λ own. inl own) (λ old. inr (inr old)) (later h)) has

  -- a member that is there after a put is the one that was put in, or was there before
  has_put : (l : List ℕ) (e : Data) (ms : Members) → Has k d (put l e ms) → ((l ≡ k) × (e ≡ d)) ⊎ Has k d ms
  has_put l e no_members has = has
  has_put l e (member m f ms) has = put_at (slice_cmp nat_cmp l m) l m e f ms refl (has_put l e ms) has

  stays_at : (o : Ordering) (l m : List ℕ) (e f : Data) (ms : Members) → (members_len (put l e ms) ≡ suc (members_len ms) → Has k d ms → Has k d (put l e ms))
      → members_len (match_ordering o (member l e (member m f ms)) (member m e ms) (member m f (put l e ms))) ≡ suc (suc (members_len ms))
      → Has k d (member m f ms)
      → Has k d (match_ordering o (member l e (member m f ms)) (member m e ms) (member m f (put l e ms)))
  stays_at Less l m e f ms later more has = inr has
  stays_at Equal l m e f ms later more has = absurd (omega (arith, more))
  stays_at Greater l m e f ms later more has = ⊎_elim (λ h. inl h) (λ h. inr (later (omega (arith, more)) h)) has

  -- each member that was there stays if there is one more after the put
  has_stays : (l : List ℕ) (e : Data) (ms : Members) → members_len (put l e ms) ≡ suc (members_len ms) → Has k d ms → Has k d (put l e ms)
  has_stays l e no_members more has = absurd has
  has_stays l e (member m f ms) more has = stays_at (slice_cmp nat_cmp l m) l m e f ms (has_stays l e ms) more has

module _ (l : List ℕ) (e : Data) where
  own_at : (o : Ordering) (m : List ℕ) (f : Data) (ms : Members) → slice_cmp nat_cmp l m ≡ o → Has l e (put l e ms)
      → Has l e (match_ordering o (member l e (member m f ms)) (member m e ms) (member m f (put l e ms)))
  own_at Less m f ms is later = inl (refl, refl)
  own_at Equal m f ms is later = inl (sym (same_text l m is), refl)
  own_at Greater m f ms is later = inr later

  has_own : (ms : Members) → Has l e (put l e ms)
  has_own no_members = inl (refl, refl)
  has_own (member m f ms) = own_at (slice_cmp nat_cmp l m) m f ms refl (has_own ms)

  long_at : (o : Ordering) (m : List ℕ) (f : Data) (ms : Members) → members_len (put l e ms) ≤ suc (members_len ms)
      → members_len (match_ordering o (member l e (member m f ms)) (member m e ms) (member m f (put l e ms))) ≤ suc (suc (members_len ms))
  long_at Less m f ms later = omega arith
  long_at Equal m f ms later = omega arith
  long_at Greater m f ms later = omega (arith, later)

  long_put : (ms : Members) → members_len (put l e ms) ≤ suc (members_len ms)
  long_put no_members = omega arith
  long_put (member m f ms) = long_at (slice_cmp nat_cmp l m) m f ms (long_put ms)

-- the members, put in after those that are there
abbrev put_in : Members → List Member → Members
put_in o ms = fold (λ n m. put m.0 m.1 n) o ms

long_all : (ms : List Member) (o : Members) → members_len (put_in o ms) ≤ members_len o + length ms
long_all [] o = omega arith
long_all (m ∷ ms) o = let a = long_all ms (put m.0 m.1 o) in let b = long_put m.0 m.1 o in omega (arith, a, b)

module _ (k : List ℕ) (d : Data) where
  all_stay : (ms : List Member) (o : Members) → members_len (put_in o ms) ≡ members_len o + length ms → Has k d o → Has k d (put_in o ms)
  all_stay [] o more has = has
  all_stay (m ∷ ms) o more has =
      let a = long_all ms (put m.0 m.1 o) in
      let b = long_put m.0 m.1 o in
      all_stay ms (put m.0 m.1 o) (omega (arith, a, b, more)) (has_stays k d m.0 m.1 o (omega (arith, a, b, more)) has)

  from_all : (ms : List Member) (o : Members) → Has k d (put_in o ms) → ((m : Member) × In m ms × (m.0 ≡ k) × (m.1 ≡ d)) ⊎ Has k d o
  from_all [] o has = inr has
  from_all (m ∷ ms) o has =
      ⊎_elim
      (λ later. inl (later.0, inr later.1, later.2, later.3))
      (λ now. ⊎_elim (λ own. inl (m, inl refl, own.0, own.1)) (λ old. inr old) (has_put k d m.0 m.1 o now))
      (from_all ms (put m.0 m.1 o) has)

all_there : (ms : List Member) (o : Members) → members_len (put_in o ms) ≡ members_len o + length ms → (m : Member) → In m ms → Has m.0 m.1 (put_in o ms)
all_there [] o more m there = absurd there
all_there (n ∷ ms) o more m there =
    let a = long_all ms (put n.0 n.1 o) in
    let b = long_put n.0 n.1 o in
    let rest : members_len (put_in (put n.0 n.1 o) ms) ≡ members_len (put n.0 n.1 o) + length ms = omega (arith, a, b, more) in
    ⊎_elim
    (λ is. subst (λ (z : Member). Has z.0 z.1 (put_in (put n.0 n.1 o) ms)) is (all_stay n.0 n.1 ms (put n.0 n.1 o) rest (has_own n.0 n.1 o)))
    (λ later. all_there ms (put n.0 n.1 o) rest m later)
    there

entry_has : (es : List Entry) (e : Entry) → In e es → Has (string_bytes e.0) (view e.1) (members_view es)
entry_has [] e there = absurd there
entry_has (f ∷ es) e there = ⊎_elim (λ is. inl (ap (λ (z : Entry). string_bytes z.0) is, ap (λ (z : Entry). view z.1) is))
    (λ later. inr (entry_has es e later)) there

has_entry : (es : List Entry) (k : List ℕ) (d : Data) → Has k d (members_view es) → (e : Entry) × In e es × (string_bytes e.0 ≡ k) × (view e.1 ≡ d)
has_entry [] k d has = absurd has
has_entry (f ∷ es) k d has = ⊎_elim (λ h. (f, inl refl, h.0, h.1)) (λ h. let later = has_entry es k d h in (later.0, inr later.1, later.2, later.3)) has

module _ (es : List Entry) (ms : List Member) (view_is : members_view es ≡ object_of ms) where
  -- an entry of an object is one of its members
  pub member_of : (e : Entry) → In e es → (m : Member) × In m ms × (m.0 ≡ string_bytes e.0) × (m.1 ≡ view e.1)
  member_of e there = ⊎_elim (λ found. found) (λ none. absurd none)
      (from_all (string_bytes e.0) (view e.1) ms no_members (subst (Has (string_bytes e.0) (view e.1)) view_is (entry_has es e there)))

  -- and each member has an entry if none took the place of another
  pub entry_for : members_len (object_of ms) ≡ length ms → (m : Member) → In m ms → (e : Entry) × In e es × (string_bytes e.0 ≡ m.0) × (view e.1 ≡ m.1)
  entry_for apart m there = has_entry es m.0 m.1 (subst (Has m.0 m.1) (sym view_is) (all_there ms no_members (omega (arith, apart)) m there))
