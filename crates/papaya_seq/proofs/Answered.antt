-- The meaning of an insertion's reply for the map, in terms of its pairs.
use Rattle.std.proofs.Common.{◌≡◌, ⊎_elim, ℕ, Bool, true, false, cond, List, [], ◌∷◌, Option, Some}
use Rattle.std.proofs.Common.{None, Result, Ok, Err, inl, inr, refl, sym, ◌∙◌, ap, subst, IfErr}
use Rattle.std.proofs.lemmas.Bool.{cases_Bool}
use Rattle.std.specs.Cmp.{IsEquivalence}
use Rattle.std.specs.Prelude.{MatchOption}
use Rattle.papaya_words.specs.declared.refused.Refused.{Refused}
use Rattle.papaya_words.specs.declared.refused.Refused.TheVariants.{RemoveNothing}
use Rattle.papaya_words_law.specs.Content.{lookup}
use Rattle.papaya_call.specs.declared.call.Call.{Call}
use Rattle.papaya_call.specs.declared.call.Call.TheVariants.{Insert, TryInsert}
use Rattle.papaya_call.specs.declared.call.Reply.TheVariants as replies
use Rattle.papaya_core_timeline.specs.Content.{content, map_in}
use Rattle.papaya_core_timeline.specs.Maps.{Does, IsMadeOf, IsUpdate, IsUpdateBy, Same, key_of, at_key}
use Rattle.papaya_core_timeline.specs.Solo.{CallDoes, IsAnswered, IsNewIn}
use Rattle.papaya_core_store.specs.Store.{StoreState, Stored, pair_of}
use Rattle.papaya_seq.proofs.LeftBy.{left_same, same_left}
use Rattle.papaya_seq.specs.Map.{HasValue, Inserts, IsStoreRefusal, IsOccupied, IsTried, IsTryRefusal}
use Rattle.papaya_seq.specs.Map.{IsWriteCause, IsWriteCauseAt, KeepsAndGrows, MapState, insertion}
use Rattle.papaya_seq.specs.Map.{kept_key, value_of}
use Rattle.papaya_seq.proofs.Lawful.{logged_content, lookup_some}

-- equal keys have one pair in a list
lookup_alike : {K V : Type 0} (eq : K → K → Bool) (law : IsEquivalence eq) (ps : List (Stored K V)) (j k : K) → eq j k ≡ true
    → lookup eq (λ p. p.key) ps j ≡ lookup eq (λ p. p.key) ps k
lookup_alike eq law [] j k e = refl
lookup_alike {V = V} eq law (p ∷ ps) j k e =
    ap (λ b. cond b (Some p) (lookup eq (λ (q : Stored _ V). q.key) ps j)) (law.congr j k p.key e)
    ∙ ap (cond (eq k p.key) (Some p)) (lookup_alike eq law ps j k e)

module _ {K V S : Type 0} (eq : K → K → Bool) (law : IsEquivalence eq) where
  -- the pair that the finite map has at a key is in the arena under its number
  pub logged_there : (s : StoreState K V S) (k : K) (n : ℕ) (p : Stored K V) → map_in eq s k ≡ Some p → p.number ≡ n → pair_of s n ≡ Some p
  logged_there s k n p there is = subst (λ m. pair_of s m ≡ Some p) is (logged_content s eq p (lookup_some eq (content eq s) k p there).0)

  -- an update that puts the pair of before in its place leaves the map
  pub update_leaves : (s : StoreState K V S) (s' : StoreState K V S) (k : K) (o : Option (Stored K V))
      → IsUpdate eq k o o (map_in eq s) (map_in eq s') → Same (map_in eq s) (map_in eq s')
  update_leaves s s' k o u j =
      ⊎_elim
      (λ (y : eq j k ≡ true). u.class j y ∙ sym (lookup_alike eq law (content eq s) j k y ∙ u.before))
      (λ (n : eq j k ≡ false). u.others j n)
      (cases_Bool (eq j k))

  module _ (k : K) (v : V) (s s' : StoreState K V S) where
    -- the pair that an insertion made
    pub record IsMade (went : Option V) (n : ℕ) : Type 0 where
      pub pair : Stored K V
      pub logged : pair_of s' n ≡ Some pair
      pub value : pair.value ≡ v
      pub inserts : Inserts eq k v s went s'

    made : (old came : Option (Stored K V)) (n : ℕ) (q : Stored K V) → IsMadeOf (kept_key k old) v n q → came ≡ Some q → pair_of s n ≡ None
        → IsUpdate eq k old came (map_in eq s) (map_in eq s') → IsMade (value_of old) n
    made old came n q is comes fresh u =
        let update : IsUpdate eq k old (Some q) (map_in eq s) (map_in eq s') = subst (λ c. IsUpdate eq k old c (map_in eq s) (map_in eq s')) comes u in
        record {
          pair = q;
          logged = logged_there s' k n q (update.class k (law.refl k)) is.number;
          value = is.value;
          inserts = record { old = old; old_is = refl; new = q; key = is.key; value = is.value; fresh = ap (pair_of s) is.number ∙ fresh; update = update };
        }

    -- a key that was absent has a new pair
    pub inserted_made : (replace : Bool) (n : ℕ) → IsAnswered eq (insertion replace k v) (map_in eq s) (replies.Inserted n) (map_in eq s')
        → IsNewIn s (replies.Inserted n) → IsMade None n
    inserted_made replace n d fresh = from replace d.went d.came
        (subst (λ j. IsUpdateBy eq j d.went d.came (map_in eq s) (map_in eq s')) (key_is replace) d.update) d.does
      where
        key_is : (b : Bool) → key_of (insertion b k v) ≡ Some k
        key_is true = refl
        key_is false = refl

        from : (b : Bool) (went came : Option (Stored K V)) → IsUpdate eq k went came (map_in eq s) (map_in eq s')
            → Does (insertion b k v) went (replies.Inserted n) came → IsMade None n
        from true None came u does = made None came n does.0 does.1 does.2 fresh u
        from false None came u does = made None came n does.0 does.1 does.2 fresh u
        from true (Some p) came u does = absurd does
        from false (Some p) came u does = absurd does

    -- a key that had a pair has a new one
    pub record IsReplaced (m n : ℕ) : Type 0 where
      pub old : Stored K V
      pub logged : pair_of s m ≡ Some old
      pub here : map_in eq s k ≡ Some old
      pub made : IsMade (Some old.value) n

    pub replaced_made : (m n : ℕ) → IsAnswered {A = Unit {0}} eq (Insert k v) (map_in eq s) (replies.Replaced m n) (map_in eq s')
        → IsNewIn s (replies.Replaced m n) → IsReplaced m n
    replaced_made m n d fresh = from d.went d.came d.update d.does
      where
        from : (went came : Option (Stored K V)) → IsUpdate eq k went came (map_in eq s) (map_in eq s')
            → Does {A = Unit {0}} (Insert k v) went (replies.Replaced m n) came → IsReplaced m n
        from None came u does = absurd does
        from (Some p) came u does = record {
          old = p;
          logged = logged_there s k m p u.before does.0;
          here = u.before;
          made = made (Some p) came n
              does.1.0 does.1.1 does.1.2 fresh u;
        }

    -- a key that has a pair keeps it
    pub record IsThere (n : ℕ) : Type 0 where
      pub pair : Stored K V
      pub logged : pair_of s n ≡ Some pair
      pub occupied : IsOccupied eq k s pair.value s'

    pub occupied_there : (n : ℕ) → IsAnswered {A = Unit {0}} eq (TryInsert k v) (map_in eq s) (replies.Occupied n) (map_in eq s') → IsThere n
    occupied_there n d = from d.went d.came d.update d.does
      where
        from : (went came : Option (Stored K V)) → IsUpdate eq k went came (map_in eq s) (map_in eq s')
            → Does {A = Unit {0}} (TryInsert k v) went (replies.Occupied n) came → IsThere n
        from None came u does = absurd does
        from (Some p) came u does =
            let kept : IsUpdate eq k (Some p) (Some p) (map_in eq s)
            (map_in eq s') = subst (λ c. IsUpdate eq k (Some p) c (map_in eq s) (map_in eq s')) does.1 u in
            record {
              pair = p;
              logged = logged_there s k n p u.before does.0;
              occupied = record { pair = p; there = u.before; value = refl; unchanged = update_leaves s s' k (Some p) kept };
            }

    -- an insertion that replaced nothing and was not refused put its pair at an absent key
    pub neither_made : (reply : _) → IsAnswered {A = Unit {0}} eq (Insert k v) (map_in eq s) reply (map_in eq s') → IsNewIn s reply
        → ((m n : ℕ) → reply ≡ replies.Replaced m n → ⊥) → ((refused : _) → reply ≡ replies.Refused refused → ⊥) → (n : ℕ) × IsMade None n
    neither_made (replies.Inserted n) d fresh replaced refused = (n, inserted_made true n d fresh)
    neither_made (replies.Replaced m n) d fresh replaced refused = absurd (replaced m n refl)
    neither_made (replies.Refused r) d fresh replaced refused = absurd (refused r refl)
    neither_made replies.Done d fresh replaced refused = let f : Some k ≡ None = d.0 in absurd cc
    neither_made replies.Absent d fresh replaced refused = absurd (none d.went d.does)
      where
        none : (went : Option (Stored K V)) → Does {A = Unit {0}} (Insert k v) went replies.Absent d.came → ⊥
        none None does = does
        none (Some p) does = does
    neither_made (replies.Found n) d fresh replaced refused = absurd (none d.went d.does)
      where
        none : (went : Option (Stored K V)) → Does {A = Unit {0}} (Insert k v) went (replies.Found n) d.came → ⊥
        none None does = does
        none (Some p) does = does
    neither_made (replies.Occupied n) d fresh replaced refused = absurd (none d.went d.does)
      where
        none : (went : Option (Stored K V)) → Does {A = Unit {0}} (Insert k v) went (replies.Occupied n) d.came → ⊥
        none None does = does
        none (Some p) does = does
    neither_made (replies.Removed n) d fresh replaced refused = absurd (none d.went d.does)
      where
        none : (went : Option (Stored K V)) → Does {A = Unit {0}} (Insert k v) went (replies.Removed n) d.came → ⊥
        none None does = does
        none (Some p) does = does
    neither_made (replies.Aborted t) d fresh replaced refused = absurd (none d.went d.does)
      where
        none : (went : Option (Stored K V)) → Does {A = Unit {0}} (Insert k v) went (replies.Aborted t) d.came → ⊥
        none None does = does
        none (Some p) does = does
    neither_made (replies.Kept n) d fresh replaced refused = absurd (none d.went d.does)
      where
        none : (went : Option (Stored K V)) → Does {A = Unit {0}} (Insert k v) went (replies.Kept n) d.came → ⊥
        none None does = does
        none (Some p) does = does

    -- the same for a reply that is known to be this one
    pub inserted_by : (replace : Bool) (reply : _) (n : ℕ) → reply ≡ replies.Inserted n
        → IsAnswered eq (insertion replace k v) (map_in eq s) reply (map_in eq s') → IsNewIn s reply → IsMade None n
    inserted_by replace reply n is d fresh = inserted_made replace n
        (subst (λ r. IsAnswered eq (insertion replace k v) (map_in eq s) r (map_in eq s')) is d) (subst (λ r. IsNewIn s r) is fresh)

    pub replaced_by : (reply : _) (m n : ℕ) → reply ≡ replies.Replaced m n
        → IsAnswered {A = Unit {0}} eq (Insert k v) (map_in eq s) reply (map_in eq s') → IsNewIn s reply → IsReplaced m n
    replaced_by reply m n is d fresh = replaced_made m n (subst (λ r. IsAnswered {A = Unit {0}} eq (Insert k v) (map_in eq s) r (map_in eq s')) is d)
        (subst (λ r. IsNewIn s r) is fresh)

    pub occupied_by : (reply : _) (n : ℕ) → reply ≡ replies.Occupied n
        → IsAnswered {A = Unit {0}} eq (TryInsert k v) (map_in eq s) reply (map_in eq s') → IsThere n
    occupied_by reply n is d = occupied_there n (subst (λ r. IsAnswered {A = Unit {0}} eq (TryInsert k v) (map_in eq s) r (map_in eq s')) is d)

-- an insertion that found its key in the map, by its number
pub tried_there : {K V S : Type 0} (eq : K → K → Bool) (k : K) (v : V) (s : MapState K V S) (result : Result (ℕ × Option V) Refused)
    (s' : MapState K V S) (n : ℕ) (left : V) → result ≡ Ok (n, Some left) → IsTried eq k v s result s'
    → (p : Stored K V) × (pair_of s'.store n ≡ Some p) × (left ≡ v) × IsOccupied eq k s.store p.value s'.store × KeepsAndGrows s s'
tried_there eq k v s result s' n left is tried = subst (λ r. IsTried eq k v s r s') is tried

-- and one that stored its pair
pub tried_made : {K V S : Type 0} (eq : K → K → Bool) (k : K) (v : V) (s : MapState K V S) (result : Result (ℕ × Option V) Refused)
    (s' : MapState K V S) (n : ℕ) → result ≡ Ok (n, None) → IsTried eq k v s result s'
    → (p : Stored K V) × (pair_of s'.store n ≡ Some p) × (p.value ≡ v) × Inserts eq k v s.store None s'.store × KeepsAndGrows s s'
tried_made eq k v s result s' n is tried = subst (λ r. IsTried eq k v s r s') is tried

-- if there was no value before a value was stored, the key had no pair
pub none_held : {K V : Type 0} (held : Option (Stored K V)) → value_of held ≡ None → held ≡ None
none_held None e = refl
none_held (Some p) e = let f : Some p.value ≡ None = e in absurd cc

module _ {K V S : Type 0} (eq : K → K → Bool) (k : K) (v : V) (s s' : MapState K V S) (shown : V) where
  -- the value that the key has when it was stored, or was there
  abbrev IsValueHeld : Type 0
  IsValueHeld = HasValue eq k v s (Ok shown) s'
      × MatchOption (value_of (map_in eq s.store k)) (shown ≡ v) (λ current. shown ≡ current)

  pub tried_value : (result : Result (ℕ × Option V) Refused) (n : ℕ) (left : Option V) → result ≡ Ok (n, left) → IsTried eq k v s result s'
      → ((p : Stored K V) → pair_of s'.store n ≡ Some p → shown ≡ p.value) → IsValueHeld
  tried_value result n None is tried call_closure =
      let (p, logged, value, inserts, keeps) = tried_made eq k v s result s' n is tried in
      let none = inserts.update.before ∙ none_held inserts.old inserts.old_is in
      let same = call_closure p logged ∙ value in
      ((inr (same, inserts), keeps), subst (λ o. MatchOption (value_of o) (shown ≡ v) (λ current. shown ≡ current)) (sym none) same)
  tried_value result n (Some left) is tried call_closure =
      let (p, logged, given_back, occupied, keeps) = tried_there eq k v s result s' n left is tried in
      let same = call_closure p logged in (
        (inl (subst (λ w. IsOccupied eq k s.store w s'.store) (sym same) occupied), keeps),
        subst (λ o. MatchOption (value_of o) (shown ≡ v) (λ current. shown ≡ current)) (sym occupied.there) (same ∙ sym occupied.value),
      )

-- a fact about a refusal holds of this one
pub err_at : {T E : Type 0} (P : E → Type 0) (result : Result T E) (e : E) → result ≡ Err e → IfErr result P → P e
err_at P (Ok t) e is h = absurd cc
err_at P (Err other) e is h = let same : other ≡ e = cc is in subst P same h

-- and one that was refused
pub tried_refused : {K V S : Type 0} (eq : K → K → Bool) (k : K) (v : V) (s : MapState K V S) (result : Result (ℕ × Option V) Refused)
    (s' : MapState K V S) (refused : Refused) → result ≡ Err refused → IsTried eq k v s result s' → IsTryRefusal eq k s refused s'
tried_refused eq k v s result s' refused is tried = subst (λ r. IsTried eq k v s r s') is tried

module _ {K V S : Type 0} (s s' : MapState K V S) where
  -- a cause of a call that stores, without the pair of its key's class
  pub write_cause : (held : Option (Stored K V)) (refused : Refused) → IsWriteCauseAt s held refused s' → IsWriteCause s refused s'
  write_cause held refused (inl memory) = inl memory
  write_cause held refused (inr (inl (is, inl full))) = inr (inl (is, inl full))
  write_cause held refused (inr (inl (is, inr (needed, none)))) = inr (inl (is, inr none))
  write_cause held refused (inr (inr spent)) = inr (inr spent)

  -- it is refused because memory ran out, a limit was reached, or no number was left
  pub store_refusal : (refused : Refused) → IsWriteCause s refused s' → IsStoreRefusal s refused
  store_refusal refused (inl memory) = inl (inl memory)
  store_refusal refused (inr (inl (is, full))) = inl (inr is)
  store_refusal refused (inr (inr spent)) = inr spent

module _ {K V A B : Type 0} (eq : K → K → Bool) (call : Call K V A) (other : Call K V B) (k : K) (key : key_of call ≡ Some k)
    (other_key : key_of other ≡ Some k) (alike : (went came : Option (Stored K V)) (reply : _) → Does call went reply came → Does other went reply came) where
  -- two similar calls on a key have the same effect
  does_alike : (m m' : K → Option (Stored K V)) (reply : _) → CallDoes eq call m reply m' → CallDoes eq other m reply m'
  does_alike m m' reply d = record {
    went = d.went;
    came = d.came;
    update = subst (λ j. IsUpdateBy eq j d.went d.came m m') (key ∙ sym other_key) d.update;
    does = alike d.went d.came reply d.does;
  }

  -- so they have the same result
  answered_alike : (m m' : K → Option (Stored K V)) (reply : _) → IsAnswered eq call m reply m' → IsAnswered eq other m reply m'
  answered_alike m m' (replies.Refused refused)
      d = (
        same_left other k other_key m m' (left_same call k key m m' d.0),
        λ nothing.
            subst (λ j. Does other (at_key m j) (replies.Refused RemoveNothing) (at_key m j)) (key ∙ sym other_key)
            (alike (at_key m (key_of call)) (at_key m (key_of call)) (replies.Refused RemoveNothing) (d.1 nothing)),
      )
  answered_alike m m' replies.Done d = let f : None ≡ Some k = sym d.0 ∙ key in absurd cc
  answered_alike m m' (replies.Inserted n) d = does_alike m m' (replies.Inserted n) d
  answered_alike m m' (replies.Occupied n) d = does_alike m m' (replies.Occupied n) d
  answered_alike m m' replies.Absent d = does_alike m m' replies.Absent d
  answered_alike m m' (replies.Found n) d = does_alike m m' (replies.Found n) d
  answered_alike m m' (replies.Replaced o n) d = does_alike m m' (replies.Replaced o n) d
  answered_alike m m' (replies.Removed n) d = does_alike m m' (replies.Removed n) d
  answered_alike m m' (replies.Kept n) d = does_alike m m' (replies.Kept n) d
  answered_alike m m' (replies.Aborted t) d = does_alike m m' (replies.Aborted t) d

module _ {K V : Type 0} (A : Type 0) (k : K) (v : V) where
  -- the effect of an insertion that replaces nothing does not depend on the type of the closures'
  -- answers
  try_does : (went came : Option (Stored K V)) (reply : _) → Does {A = Unit {0}} (TryInsert k v) went reply came → Does {A = A} (TryInsert k v) went reply came
  try_does None came (replies.Inserted n) d = d
  try_does (Some p) came (replies.Occupied n) d = d
  try_does (Some p) came (replies.Inserted n) d = absurd d
  try_does None came (replies.Occupied n) d = absurd d
  try_does None came replies.Absent d = absurd d
  try_does (Some p) came replies.Absent d = absurd d
  try_does None came (replies.Found n) d = absurd d
  try_does (Some p) came (replies.Found n) d = absurd d
  try_does None came (replies.Replaced m n) d = absurd d
  try_does (Some p) came (replies.Replaced m n) d = absurd d
  try_does None came (replies.Removed n) d = absurd d
  try_does (Some p) came (replies.Removed n) d = absurd d
  try_does None came (replies.Kept n) d = absurd d
  try_does (Some p) came (replies.Kept n) d = absurd d
  try_does None came (replies.Aborted t) d = absurd d
  try_does (Some p) came (replies.Aborted t) d = absurd d
  try_does None came replies.Done d = absurd d
  try_does (Some p) came replies.Done d = absurd d
  try_does None came (replies.Refused refused) d = absurd d
  try_does (Some p) came (replies.Refused refused) d = absurd d

  -- nor does that of one that replaces
  insert_does : (went came : Option (Stored K V)) (reply : _) → Does {A = Unit {0}} (Insert k v) went reply came → Does {A = A} (Insert k v) went reply came
  insert_does None came (replies.Inserted n) d = d
  insert_does None came (replies.Occupied n) d = absurd d
  insert_does None came replies.Absent d = absurd d
  insert_does None came (replies.Found n) d = absurd d
  insert_does None came (replies.Replaced m n) d = absurd d
  insert_does None came (replies.Removed n) d = absurd d
  insert_does None came (replies.Kept n) d = absurd d
  insert_does None came (replies.Aborted t) d = absurd d
  insert_does None came replies.Done d = absurd d
  insert_does None came (replies.Refused refused) d = absurd d
  insert_does (Some p) came (replies.Inserted n) d = absurd d
  insert_does (Some p) came (replies.Occupied n) d = absurd d
  insert_does (Some p) came replies.Absent d = absurd d
  insert_does (Some p) came (replies.Found n) d = absurd d
  insert_does (Some p) came (replies.Replaced m n) d = d
  insert_does (Some p) came (replies.Removed n) d = absurd d
  insert_does (Some p) came (replies.Kept n) d = absurd d
  insert_does (Some p) came (replies.Aborted t) d = absurd d
  insert_does (Some p) came replies.Done d = absurd d
  insert_does (Some p) came (replies.Refused refused) d = absurd d

  -- nor do their results
  pub try_answered : (eq : K → K → Bool) (m m' : K → Option (Stored K V)) (reply : _) → IsAnswered {A = Unit {0}} eq (TryInsert k v) m reply m'
      → IsAnswered {A = A} eq (TryInsert k v) m reply m'
  try_answered eq = answered_alike eq (TryInsert k v) (TryInsert k v) k refl refl try_does

  pub insert_answered : (eq : K → K → Bool) (m m' : K → Option (Stored K V)) (reply : _) → IsAnswered {A = Unit {0}} eq (Insert k v) m reply m'
      → IsAnswered {A = A} eq (Insert k v) m reply m'
  insert_answered eq = answered_alike eq (Insert k v) (Insert k v) k refl refl insert_does
