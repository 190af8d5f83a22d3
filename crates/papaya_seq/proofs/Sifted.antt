-- The pairs that a retain leaves, by the results of its closure.
use Rattle.std.proofs.Common.{◌≡◌, ◌⊎◌, inl, inr, ⊎_elim, Bool, true, false, cond, List, [], ◌∷◌, None, Some, Result, Ok, Err, OnOk, IfErr, sym, ◌∙◌, ap, subst}
use Rattle.std.proofs.lemmas.Bool.{cases_Bool, cond-true, cond-false}
use denote.Ref.{Bor}
use Rattle.std.specs.Cmp.{IsEquivalence}
use Rattle.std.specs.Fn.{Called, Mut}
use Rattle.papaya_call.specs.Answers.{Says}
use Rattle.papaya_words_law.specs.Content.{AreApart, lookup}
use Rattle.papaya_core_store.specs.Store.{StoreState, Stored}
use Rattle.papaya_core_timeline.specs.Content.{content, map_in}
use Rattle.papaya_core_timeline.specs.Solo.{IsWithin}
use Rattle.papaya_core_timeline.proofs.SoloTimeline.{lookup_alike}
use Rattle.papaya_seq.specs.Calls.{IsSifted, Sifts}
use Rattle.papaya_seq.specs.Retains.{Retains}

-- a fact that always holds, holds of a result
pub on_ok : {T E P : Type 0} (done : Result T E) → P → OnOk done P
on_ok (Ok t) p = p
on_ok (Err e) p = tt

pub on_err : {T E P : Type 0} (done : Result T E) → P → IfErr done (λ e. P)
on_err (Ok t) p = tt
on_err (Err e) p = p

pub ok_then : {T E P Q : Type 0} (done : Result T E) → OnOk done P → (P → Q) → OnOk done Q
ok_then (Ok t) p f = f p
ok_then (Err e) p f = tt

pub err_then : {T E Q : Type 0} {P : E → Type 0} (done : Result T E) → IfErr done P → ((e : E) → P e → Q) → IfErr done (λ e. Q)
err_then (Ok t) p f = tt
err_then (Err e) p f = f e p

pub err_only : {T E : Type 0} {P Q : E → Type 0} (done : Result T E) → IfErr done P → ((e : E) → P e → Q e) → IfErr done Q
err_only (Ok t) p f = tt
err_only (Err e) p f = f e p

module _ {K V A : Type 0} (eq : K → K → Bool) (classes : IsEquivalence eq) (says : Says K V A) where
  -- a key's pair is the one of before, or there is none
  abbrev Within : List (Stored K V) → List (Stored K V) → K → Type 0
  Within shown left j = (lookup eq (λ p. p.key) left j ≡ lookup eq (λ p. p.key) shown j) ⊎ (lookup eq (λ p. p.key) left j ≡ None)

  -- a pair that stays
  kept : (p : Stored K V) (shown left : List (Stored K V)) (j : K) → Within shown left j → Within (p ∷ shown) (p ∷ left) j
  kept p shown left j rest =
      ⊎_elim
      (λ (same : eq j p.key ≡ true). inl (cond-true (eq j p.key) (Some p) (lookup eq (λ (q : Stored K V). q.key) left j) same
      ∙ sym (cond-true (eq j p.key) (Some p) (lookup eq (λ (q : Stored K V). q.key) shown j) same)))
      (λ (other : eq j p.key ≡ false).
      let after = cond-false (eq j p.key) (Some p) (lookup eq (λ (q : Stored K V). q.key) left j) other in
      let before = cond-false (eq j p.key) (Some p) (lookup eq (λ (q : Stored K V). q.key) shown j) other in
      ⊎_elim (λ is. inl (after ∙ is ∙ sym before)) (λ none. inr (after ∙ none)) rest)
      (cases_Bool (eq j p.key))

  -- a pair that does not
  dropped : (p : Stored K V) (shown left : List (Stored K V)) (j : K) → lookup eq (λ q. q.key) shown p.key ≡ None → ((k : K) → Within shown left k)
      → Within (p ∷ shown) left j
  dropped p shown left j alone rest =
      ⊎_elim
      (λ (same : eq j p.key ≡ true). inr (lookup_alike eq classes (λ (q : Stored K V). q.key) left j p.key same ∙
      ⊎_elim (λ is. is ∙ alone) (λ none. none) (rest p.key)))
      (λ (other : eq j p.key ≡ false).
      let before = cond-false (eq j p.key) (Some p) (lookup eq (λ (q : Stored K V). q.key) shown j) other in
      ⊎_elim (λ is. inl (is ∙ sym before)) (λ none. inr none) (rest j))
      (cases_Bool (eq j p.key))

  pub sifted_within : (a : A) (shown left : List (Stored K V)) (a' : A) → Sifts says a shown left a' → AreApart eq (λ p. p.key) shown → (j : K)
      → Within shown left j
  sifted_within a [] left a' (none, is) apart j = inl (ap (λ l. lookup eq (λ (q : Stored K V). q.key) l j) none)
  sifted_within a (p ∷ ps) left a' (true, later, rest, said, sifts, is) (alone, apart) j =
      subst (λ l. Within (p ∷ ps) l j) (sym is) (kept p ps rest j (sifted_within later ps rest a' sifts apart j))
  sifted_within a (p ∷ ps) left a' (false, later, rest, said, sifts, is) (alone, apart) j =
      subst (λ l. Within (p ∷ ps) l j) (sym is) (dropped p ps rest j alone (λ k. sifted_within later ps rest a' sifts apart k))

  -- so the map has some of its pairs left
  pub sifted_left : {S : Type 0} (a : A) (s s' : StoreState K V S) → IsSifted eq says a s s' → IsWithin (map_in eq s) (map_in eq s')
  sifted_left a s s' x j = ⊎_elim (λ is. inl (is ∙ x.pairs j)) (λ none. inr none) (sifted_within a x.shown (content eq s') x.later x.sifts x.once j)

-- if the calls of a closure are those of these answers, it retains the pairs to which they agree
module _ {F K V A : Type 0} (g : Mut F (Bor K × (Bor V × Unit {0})) Bool) (says : Says K V A) (answers_of : F → A)
    (asks : (f f' : F) (key : Bor K) (value : Bor V) (agrees : Bool) → Called g f (key, (value, tt)) agrees f'
    → says.yes (answers_of f) key.now value.now agrees (answers_of f')) where
  pub sifts : (f : F) (shown left : List (Stored K V)) (f' : F) → Retains g f shown left f' → Sifts says (answers_of f) shown left (answers_of f')
  sifts f [] left f' (none, same) = (none, ap answers_of same)
  sifts f (p ∷ ps) left f' (agrees, later, rest, said, retains, is) = (
    agrees,
    answers_of later,
    rest,
    subst (λ v. says.yes (answers_of f) p.key v agrees (answers_of later)) said.value_is
        (subst (λ k. says.yes (answers_of f) k said.value.now agrees (answers_of later)) said.key_is (asks f later said.key said.value agrees said.called)),
    sifts later ps rest f' retains,
    is,
  )

-- if a closure agrees to no pair, none is left
pub retains_none : {F K V : Type 0} (g : Mut F (Bor K × (Bor V × Unit {0})) Bool)
    → ((f f' : F) (key : Bor K) (value : Bor V) (agrees : Bool) → Called g f (key, (value, tt)) agrees f' → agrees ≡ false)
    → (f : F) (shown left : List (Stored K V)) (f' : F) → Retains g f shown left f' → left ≡ []
retains_none g never f [] left f' (none, same) = none
retains_none {F} {K} {V} g never f (p ∷ ps) left f' (agrees, later, rest, said, retains, is) =
    is ∙ ap (λ b. cond b (p ∷ rest) rest) (never f later said.key said.value agrees said.called) ∙ retains_none g never later ps rest f' retains
