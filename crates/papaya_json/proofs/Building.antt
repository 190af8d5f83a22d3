-- The object of some entries, after one more entry.
use Rattle.std.proofs.Common.{◌≡◌, suc, ◌+◌, ◌<◌, ◌≤◌, ◌||◌, not, cond, Bool, true, false, List, []}
use Rattle.std.proofs.Common.{◌∷◌, ◌++◌, length, map, Option, None, Some, Result, Ok, Err, String, Global, string_bytes}
use Rattle.std.specs.Prelude.{IfOk}
use Rattle.std.proofs.Common.{string_cmp, refl, sym, ap, ◌∙◌, subst, arith}
use Rattle.std.proofs.lemmas.List.{length_push}
use Rattle.std.proofs.lemmas.List.Sums.{fold_push}
use Rattle.std.proofs.lemmas.List.Elements.{All-cons, All-head, All-nil, All-tail}
use Rattle.std.specs.List.{All, AllZip, Any}
use Rattle.std.specs.BTreeMap.{insert_entry}
use Rattle.serde_json.specs.Data.{Members, no_members, put}
use Rattle.serde_json.specs.View.{view, members_view}
use Rattle.serde_json.specs.declared.value.Value.{Value}
use Rattle.serde_json.proofs.Views.{members_view-insert_entry}
use denote.Bor.{Bor}
use Rattle.papaya_map_scan.specs.Walked.{Gives, Walked}
use Rattle.papaya_map.proofs.Yielded.{HasYielded, all_yielded, one_yielded}
use Rattle.papaya_set.specs.Sets.{entry_of_key}
use Rattle.papaya_json.specs.Objects.{IsMember, Member, object_of}

pub more_than_one : (c n : Bool) → c ≡ true → (c || n) ≡ c
more_than_one true n e = refl
more_than_one false n e = absurd cc

pub as_the_next : (c n : Bool) → c ≡ false → (c || n) ≡ n
as_the_next true n e = absurd cc
as_the_next false n e = refl

pub map_push : {A B : Type 0} (f : A → B) (xs : List A) (x : A) → map f (xs ++ x ∷ []) ≡ map f xs ++ f x ∷ []
map_push f [] x = refl
map_push f (y ∷ ys) x = ap (λ l. f y ∷ l) (map_push f ys x)

-- a property of one item of a list holds of some item of the list
pub any_middle : {A : Type 0} (P : A → Type 0) (xs : List A) (x : A) (ys : List A) → P x → Any P (xs ++ x ∷ ys)
any_middle P [] x ys here = (0, x, omega arith, refl, here)
any_middle P (y ∷ xs) x ys here = let a = any_middle P xs x ys here in (suc a.0, a.1, omega (arith, a.2), a.3, a.4)

-- two facts about a result that is Ok, as one
pub ok_both : {A E : Type 0} {P Q R : A → Type 0} (r : Result A E) → ((a : A) → P a → Q a → R a) → IfOk r P → IfOk r Q → IfOk r R
ok_both (Ok a) f p q = f a p q
ok_both (Err e) f p q = tt

-- the entries of the keys of entries with unit values
keys_same : {K : Type 0} (es : List (K × Unit {0})) → es ≡ map entry_of_key (map (λ e. e.0) es)
keys_same [] = refl
keys_same ((k, u) ∷ es) = ap (λ (later : List _). (k, tt) ∷ later) (keys_same es)

pub keys_again : {K : Type 0} (P : List (K × Unit {0}) → Type 0) (es : List (K × Unit {0})) → P es → P (map entry_of_key (map (λ e. e.0) es))
keys_again P es is = subst P (keys_same es) is

-- a fact about entries with unit values is one about their keys
pub all_keys : {K : Type 0} (P : K × Unit {0} → Type 0) (es : List (K × Unit {0})) → All P es → All (λ k. P (entry_of_key k)) (map (λ e. e.0) es)
all_keys P [] all = All-nil (λ k. P (entry_of_key k))
all_keys P ((k, u) ∷ es) all = All-cons (λ k. P (entry_of_key k)) k (map (λ e. e.0) es) (All-head P (k, u) es all)
    (all_keys P es (All-tail P (k, u) es all))

-- what an iteration has yielded, after one more step, whatever it returned
pub still_yielded : {K V : Type 0} (eq : K → K → Bool) (first before after : Walked K V) → HasYielded eq first before → (found : Option (Bor K × Bor V))
    → Gives eq before found after → HasYielded eq first after
still_yielded eq first before after so_far None gives = all_yielded eq first before after so_far gives
still_yielded eq first before after so_far (Some entry) gives = one_yielded eq first before after so_far entry gives

-- one more of each list
pub zip_more : {A B : Type 0} (R : A → B → Type 0) (xs : List A) (ys : List B) (x : A) (y : B) → AllZip R xs ys → R x y → AllZip R (xs ++ x ∷ []) (ys ++ y ∷ [])
zip_more R [] [] x y all one = (one, tt)
zip_more R [] (y' ∷ ys) x y all one = absurd all
zip_more R (x' ∷ xs) [] x y all one = absurd all
zip_more R (x' ∷ xs) (y' ∷ ys) x y all one = (all.0, zip_more R xs ys x y all.1 one)

module _ {K V : Type 0} (text_of : K → Option (String Global) → Type 0) (data_of : V → Option Value → Type 0) where
  -- The entries so far have these members, which are those of the object. There is one for each,
  -- unless two keys have the same text.
  pub record IsBuilt (items : List (K × V)) (entries : List (String Global × Value)) (clash : Bool) : Type 0 where
    pub members : List Member
    pub each : AllZip (IsMember text_of data_of) items members
    pub view_is : members_view entries ≡ object_of members
    pub apart : clash ≡ false → length entries ≡ length items
    pub fewer : clash ≡ true → length entries < length items
    pub most : length entries ≤ length items

  pub built_none : IsBuilt [] [] false
  built_none = record { members = []; each = tt; view_is = refl; apart = λ _. refl; fewer = λ e. absurd cc; most = omega arith }

  module _ (items : List (K × V)) (es : List (String Global × Value)) (clash : Bool) (built : IsBuilt items es clash) (item : K × V)
      (t : String Global) (v : Value)
      (text_is : text_of item.0 (Some t)) (value_is : data_of item.1 (Some v)) where
    abbrev m : Member
    m = (string_bytes t, view v)

    member : IsMember text_of data_of item m
    member = record { text = t; value = v; text_is = text_is; value_is = value_is; bytes = refl; shown = refl }

    view_more : members_view (insert_entry string_cmp es t v) ≡ object_of (built.members ++ m ∷ [])
    view_more = members_view-insert_entry es t v ∙ ap (put (string_bytes t) (view v)) built.view_is
        ∙ sym (fold_push (λ (o : Members) (n : Member). put n.0 n.1 o) no_members built.members m)

    long : length (items ++ item ∷ []) ≡ length items + 1
    long = length_push items item

    -- one more entry for a new text
    pub built_more : (new after : Bool) → (clash || not new) ≡ after → length (insert_entry string_cmp es t v) ≡ length es + cond new 1 0
        → IsBuilt (items ++ item ∷ []) (insert_entry string_cmp es t v) after
    built_more new after is many = record {
      members = built.members ++ m ∷ [];
      each = zip_more (IsMember text_of data_of) items built.members item m built.each member;
      view_is = view_more;
      apart = λ e. none clash new built.apart many (is ∙ e);
      fewer = λ e. one clash new built.fewer many (is ∙ e);
      most = let a = built.most in let b = little new in omega (arith, a, many, long, b);
    }
      where
        little : (b : Bool) → cond b 1 0 ≤ 1
        little true = omega arith
        little false = omega arith

        none : (c n : Bool) → (c ≡ false → length es ≡ length items) → length (insert_entry string_cmp es t v) ≡ length es + cond n 1 0
            → (c || not n) ≡ false → length (insert_entry string_cmp es t v) ≡ length (items ++ item ∷ [])
        none true n apart more e = absurd cc
        none false false apart more e = absurd cc
        none false true apart more e = let a = apart refl in omega (arith, a, more, long)

        one : (c n : Bool) → (c ≡ true → length es < length items) → length (insert_entry string_cmp es t v) ≡ length es + cond n 1 0
            → (c || not n) ≡ true → length (insert_entry string_cmp es t v) < length (items ++ item ∷ [])
        one true n fewer more e = let a = fewer refl in let b = little n in omega (arith, a, more, long, b)
        one false false fewer more e = let a = built.most in omega (arith, a, more, long)
        one false true fewer more e = absurd cc

    -- the same, for an object and items that are equal to those
    pub built_on : (new after : Bool) → (clash || not new) ≡ after → (es' : List (String Global × Value)) → es' ≡ insert_entry string_cmp es t v
        → length es' ≡ length es + cond new 1 0 → (items' : List (K × V)) → items' ≡ items ++ item ∷ [] → IsBuilt items' es' after
    built_on new after is es' entries many items' came =
        let more : IsBuilt (items ++ item ∷ []) (insert_entry string_cmp es t v) after = built_more new after is (sym (ap length entries) ∙ many) in
        let there : IsBuilt (items ++ item ∷ []) es' after = subst (λ e. IsBuilt (items ++ item ∷ []) e after) (sym entries) more in
        subst (λ i. IsBuilt i es' after) (sym came) there
