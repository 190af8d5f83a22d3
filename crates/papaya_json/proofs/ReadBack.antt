-- Maps and sets that were written and read again.
use Rattle.std.proofs.Common.{◌≡◌, ◌∙◌, ℕ, Bool, true, List, [], length, Option, Some, String, Vec, Global, string_bytes, sym, ap, subst, rules}
use Rattle.std.proofs.lemmas.Slice.Zip.{AllZip-long}
use Rattle.std.specs.Cmp.{IsEquivalence}
use Rattle.std.specs.List.{AllZip}
use Rattle.serde_json.specs.Data.{object}
use Rattle.serde_json.specs.Events.{members_len}
use Rattle.serde_json.specs.View.{members_view, view}
use Rattle.serde_json.specs.declared.value.Value.{Value, Array, out-Value, the_lemmas}
use Rattle.serde_json.specs.declared.value.Value.TheOpen.{Value-F}
use Rattle.serde_json.proofs.Views.{view-Object}
use Rattle.papaya_words_law.specs.Content.{AreApart}
use Rattle.papaya_core_timeline.specs.Content.{content}
use Rattle.papaya_core_store.specs.Store.{Stored}
use Rattle.papaya_seq.specs.Clones.{AreEqual}
use Rattle.papaya_seq.specs.Map.{MapState, entry_of}
use Rattle.papaya_set.specs.Sets.{HaveSameKeys, entry_of_key, keys_of}
use Rattle.papaya_json.specs.Arrays.{IsArray, IsKey, IsSetOf}
use Rattle.papaya_json.specs.Objects.{Entry, IsMapOf, IsMember, IsObject, IsPair, Member, object_of, pairs_of}
use Rattle.papaya_json.specs.Undoing.{UndoesItems, UndoesTexts, UndoesValues}
use Rattle.papaya_json.proofs.Lists.{In, zip_left, zip_right, zip_seen}
use Rattle.papaya_json.proofs.Members.{entry_for, member_of}
use Rattle.papaya_json.proofs.Agreeing.{agree, agree_by, same_keys}

module _ {K V S Z : Type 0} (eq : K → K → Bool) (law : IsEquivalence eq) (text_of : K → Option (String Global) → Type 0) (data_of : V → Option Value → Type 0)
    (key_of : List ℕ → Option K → Type 0) (value_of : Value → Option V → Type 0) (same : V → V → Bool)
    (texts : UndoesTexts eq text_of key_of) (values : UndoesValues same data_of value_of) (s : MapState K V S) (t : MapState K V Z) where
  abbrev Near : K × V → K × V → Type 0
  Near a b = (eq a.0 b.0 ≡ true) × (same a.1 b.1 ≡ true)

  -- an entry of the object holds a member of a map's entry: reading it gives a result near the
  -- map's entry
  near_by : (p : K × V) (m : Member) → IsMember text_of data_of p m → (e : Entry) → string_bytes e.0 ≡ m.0 → view e.1 ≡ m.1 → (b : K × V)
      → IsPair key_of value_of e b → Near p b
  near_by p m is e bytes shown b read = (
    texts p.0 b.0 is.text is.text_is (subst (λ (k : List ℕ). key_of k (Some b.0)) (bytes ∙ sym is.bytes) read.0),
    values p.1 b.1 is.value e.1 is.value_is (shown ∙ sym is.shown) read.1,
  )

  pub map_back : AreApart eq (λ p. p.key) (content eq s.store) → (v : Value) → IsObject text_of data_of (pairs_of eq s.store) v
      → IsMapOf key_of value_of eq v t → AreEqual eq same s.store t.store
  map_back apart v written (members, is, read) =
      let one : object (members_view members.entries) ≡ object (object_of written.members) = sym (view-Object members) ∙ ap view (sym is) ∙ written.value in
      let view_is : members_view members.entries ≡ object_of written.members = cc one in
      let many : members_len (object_of written.members) ≡ length written.members = written.apart
      ∙ sym (AllZip-long (IsMember text_of data_of) (pairs_of eq s.store) written.members written.each) in
      let zipped = zip_seen (IsMember text_of data_of) entry_of (content eq s.store) written.members written.each in
      let there : (p : Stored K V) → In p (content eq s.store) → (b : K × V) × In b read.done × Near (entry_of p) b = λ p within.
      let m = zip_right (λ (p : Stored K V). IsMember text_of data_of (entry_of p)) (content eq s.store) written.members zipped p within in
      let e = entry_for members.entries written.members view_is many m.0 m.1 in
      let b = zip_right (IsPair key_of value_of) members.entries read.done read.each e.0 e.1 in
      (b.0, b.1, near_by (entry_of p) m.0 m.2 e.0 e.2 e.3 b.0 b.2) in
      let from : (b : K × V) → In b read.done → (p : Stored K V) × In p (content eq s.store) × Near (entry_of p) b = λ b within.
      let e = zip_left (IsPair key_of value_of) members.entries read.done read.each b within in
      let m = member_of members.entries written.members view_is e.0 e.1 in
      let p = zip_left (λ (p : Stored K V). IsMember text_of data_of (entry_of p)) (content eq s.store) written.members zipped m.0 m.1 in
      (p.0, p.1, near_by (entry_of p.0) m.0 p.2 e.0 (sym m.2) (sym m.3) b e.2) in
      agree_by eq s.store t.store (λ p q. Near (entry_of p) (entry_of q)) (λ p q. same p.value q.value ≡ true) (λ p q near. near.1)
      (agree eq law (λ p. p) Near (λ a b near. near.0) (λ e a b key value. (key.0, value.1)) s.store t.store read.done apart there from read.just.entries)

-- the items of a value, if it is an array
abbrev items_in : Value-F Value → List Value
items_in (Value-F.Array array) = array.items
items_in _ = []

items_of : (array : Vec Value Global) → items_in (out-Value (Array array)) ≡ array.items
items_of array = search (rules, the_lemmas)

module _ {K S Z : Type 0} (eq : K → K → Bool) (law : IsEquivalence eq) (data_of : K → Option Value → Type 0) (key_of : Value → Option K → Type 0)
    (items : UndoesItems eq data_of key_of) (s : MapState K (Unit {0}) S) (t : MapState K (Unit {0}) Z) where
  abbrev NearKey : K × Unit {0} → K × Unit {0} → Type 0
  NearKey a b = eq a.0 b.0 ≡ true

  pub set_back : AreApart eq (λ p. p.key) (content eq s.store) → (v : Value) → IsArray data_of (keys_of eq s.store) v → IsSetOf key_of eq v t
      → HaveSameKeys eq s.store t.store
  set_back apart v (array, is, written) (again, is_too, read) =
      let one : array.items ≡ again.items = sym (items_of array) ∙ ap (λ v. items_in (out-Value v)) (sym is ∙ is_too) ∙ items_of again in
      let zipped = zip_seen (λ (k : K) (item : Value). data_of k (Some item)) (λ (p : Stored K (Unit {0})). p.key) (content eq s.store) again.items
      (subst (AllZip (λ (k : K) (item : Value). data_of k (Some item)) (keys_of eq s.store)) one written) in
      let there : (p : Stored K (Unit {0})) → In p (content eq s.store) → (b : K) × In b read.done × NearKey (entry_of p) (entry_of_key b) = λ p within.
      let item = zip_right (λ (p : Stored K (Unit {0})) (item : Value). data_of p.key (Some item)) (content eq s.store) again.items zipped p within in
      let b = zip_right (IsKey key_of) again.items read.done read.each item.0 item.1 in
      (b.0, b.1, items p.key b.0 item.0 item.2 b.2) in
      let from : (b : K) → In b read.done → (p : Stored K (Unit {0})) × In p (content eq s.store) × NearKey (entry_of p) (entry_of_key b) = λ b within.
      let item = zip_left (IsKey key_of) again.items read.done read.each b within in
      let p = zip_left (λ (p : Stored K (Unit {0})) (item : Value). data_of p.key (Some item)) (content eq s.store) again.items zipped item.0 item.1 in
      (p.0, p.1, items p.0.key b item.0 p.2 item.2) in
      same_keys eq s.store t.store (λ p q. NearKey (entry_of p) (entry_of q))
      (agree eq law entry_of_key NearKey (λ a b near. near) (λ e a b key value. key) s.store t.store read.done apart there from read.just.entries)
