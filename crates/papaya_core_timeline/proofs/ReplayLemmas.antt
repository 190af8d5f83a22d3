-- The map that a list of exchanges leaves, whatever tables there are.
use Rattle.std.proofs.Common.{◌≡◌, ◌⊎◌, inl, inr, ⊎_elim, ℕ, Bool, true, false, cond, Option, None}
use Rattle.std.proofs.Common.{Some, List, [], ◌∷◌, ◌++◌, refl, sym, ◌∙◌, ap, subst, append_assoc}
use Rattle.std.proofs.lemmas.Bool.{cases_Bool}
use Rattle.papaya_words.specs.Table.{TableWords}
use Rattle.papaya_words.specs.declared.resize_mode.ResizeMode.TheVariants.{Blocking}
use Rattle.papaya_words_law.specs.Allows.{AllAllowed}
use Rattle.papaya_words_law.specs.Class.{IsOn, IsTied}
use Rattle.papaya_words_law.specs.Content.{lookup, content}
use Rattle.papaya_words_law.specs.Exchange.{Setting, State, Word, Exchange, Open, Claim, Replace, Bury}
use Rattle.papaya_words_law.specs.Exchange.{Link, Mark, Close, Place, Finish, Advance, Promote, Abort}
use Rattle.papaya_words_law.specs.Exchange.{Take, run, start}
use Rattle.papaya_words_law.specs.Invariant.{IsBlockingState, IsIncrementalState, IsKeeping, named}
use Rattle.papaya_words_law.specs.Meaning.{map_of, map_after, map_left, IsLegal, AllLegal, IsLawful}
use Rattle.papaya_words_law.specs.View.{Here, Leaving, look}
use Rattle.papaya_words_law.proofs.Content.{content_is}
use Rattle.papaya_words_law.proofs.Lists.{table_found}
use Rattle.papaya_words_law.proofs.Moments.{map_of-append}
use Rattle.papaya_words_law.proofs.OneMap.{keeping, legal_changes}
use Rattle.papaya_words_law.proofs.Slots.{view_here, view_leaving}
use Rattle.papaya_core_timeline.specs.Kept.{setting_of}
use Rattle.papaya_core_timeline.specs.Maps.{Map}
use Rattle.papaya_core_store.specs.Store.{Stored}
use Rattle.papaya_core_timeline.proofs.Good.{replayed, replay}
use Rattle.papaya_core_store.specs.declared.store.Mode.{Mode}

-- a prefix of a list that may be longer by one is a prefix of the list, or is the whole
pub beginning-cases : {A : Type 0} (so_far rest since made : List A) → (made ≡ []) ⊎ ((e : A) × (made ≡ e ∷ [])) → so_far ++ rest ≡ since ++ made
    → ((left : List A) × (so_far ++ left ≡ since)) ⊎ (so_far ≡ since ++ made)
beginning-cases [] rest since made one e = inl (since, refl)
beginning-cases (x ∷ so_far) rest [] made (inl none) e = let f : x ∷ (so_far ++ rest) ≡ [] = e ∙ none in cc
beginning-cases (x ∷ so_far) rest [] made (inr (y, is)) e =
    let f : x ∷ (so_far ++ rest) ≡ y ∷ [] = e ∙ is in
    let same : x ≡ y = cc in
    let no_more : so_far ++ rest ≡ [] = cc in
    inr (all so_far rest y same no_more ∙ sym is)
  where
    all : (so_far rest : List _) (y : _) → x ≡ y → so_far ++ rest ≡ [] → x ∷ so_far ≡ y ∷ []
    all [] rest y same no_more = ap (λ z. z ∷ []) same
    all (z ∷ so_far) rest y same no_more = cc
beginning-cases (x ∷ so_far) rest (y ∷ since) made one e =
    let same : x ≡ y = cc in
    let further : so_far ++ rest ≡ since ++ made = cc in
    ⊎_elim
    (λ l. inl (l.0, ap (λ z. z ∷ (so_far ++ l.0)) same ∙ ap (λ z. y ∷ z) l.1))
    (λ whole. inr (ap (λ z. z ∷ so_far) same ∙ ap (λ z. y ∷ z) whole))
    (beginning-cases so_far rest since made one further)

module _ {K V : Type 0} (eq : K → K → Bool) where
  -- the law's map in the setting that tables are is the replay
  pub map_replayed : (hash : K → ℕ) (mode : Mode) (tables : List TableWords) (es : List (Exchange (Stored K V))) (m : Map K V)
      → map_of (setting_of eq hash mode tables) m es ≡ replayed eq m es
  map_replayed hash mode tables [] m = refl
  map_replayed hash mode tables (Open t ∷ es) m = map_replayed hash mode tables es m
  map_replayed hash mode tables (Claim t x p ∷ es) m = map_replayed hash mode tables es (λ k. cond (eq k p.key) (Some p) (m k))
  map_replayed hash mode tables (Replace t x p q ∷ es) m = map_replayed hash mode tables es (λ k. cond (eq k p.key) (Some q) (m k))
  map_replayed hash mode tables (Bury t x p ∷ es) m = map_replayed hash mode tables es (λ k. cond (eq k p.key) None (m k))
  map_replayed hash mode tables (Link t n ∷ es) m = map_replayed hash mode tables es m
  map_replayed hash mode tables (Mark t x p ∷ es) m = map_replayed hash mode tables es m
  map_replayed hash mode tables (Close t x ∷ es) m = map_replayed hash mode tables es m
  map_replayed hash mode tables (Place n x p ∷ es) m = map_replayed hash mode tables es m
  map_replayed hash mode tables (Finish t x p ∷ es) m = map_replayed hash mode tables es m
  map_replayed hash mode tables (Advance n c ∷ es) m = map_replayed hash mode tables es m
  map_replayed hash mode tables (Promote t n ∷ es) m = map_replayed hash mode tables es m
  map_replayed hash mode tables (Abort n ∷ es) m = map_replayed hash mode tables es m
  map_replayed hash mode tables (Take n ∷ es) m = map_replayed hash mode tables es m

  -- two lists after each other
  pub replay-append : (es fs : List (Exchange (Stored K V))) → replay eq (es ++ fs) ≡ replayed eq (replay eq es) fs
  replay-append es fs = map_of-append (setting_of eq (λ k. 0) (record { resize = Blocking; limit = None }) []) es fs (λ k. None)

  -- three
  pub replay-three : (begun since made : List (Exchange (Stored K V))) → replay eq ((begun ++ since) ++ made) ≡ replayed eq (replay eq begun) (since ++ made)
  replay-three begun since made = ap (λ l. replay eq l) (append_assoc begun since made) ∙ replay-append begun (since ++ made)

  module _ (hash : K → ℕ) (mode : Mode) (tables : List TableWords) (law : IsLawful (setting_of {V = V} eq hash mode tables)) where
    -- the law's setting
    abbrev g : Setting K (Stored K V)
    g = setting_of eq hash mode tables

    -- a map has one pair for equal keys, and keeps to that
    respects_put : (m : Map K V) → ((j k : K) → eq j k ≡ true → m j ≡ m k) → (l : K) (new : Option (Stored K V)) → (j k : K) → eq j k ≡ true
        → cond (eq j l) new (m j) ≡ cond (eq k l) new (m k)
    respects_put m alike l new j k same =
        let e : eq j l ≡ eq k l = same_left j k l same in
        ap (λ b. cond b new (m j)) e ∙ ap (λ v. cond (eq k l) new v) (alike j k same)
      where
        same_left : (j k l : K) → eq j k ≡ true → eq j l ≡ eq k l
        same_left j k l same = elim (cases_Bool (eq k l)) [
          | inl here ↦ law.through j k l same here ∙ sym here
          | inr other ↦ elim (cases_Bool (eq j l)) [
            | inl there ↦ let f : eq k l ≡ true = law.through k j l (law.back j k same) there in cc
            | inr elsewhere ↦ elsewhere ∙ sym other
          ]
        ]

    respects : (es : List (Exchange (Stored K V))) (m : Map K V) → ((j k : K) → eq j k ≡ true → m j ≡ m k) → (j k : K) → eq j k ≡ true
        → replayed eq m es j ≡ replayed eq m es k
    respects [] m alike = alike
    respects (Open t ∷ es) m alike = respects es m alike
    respects (Claim t x p ∷ es) m alike = respects es (λ k. cond (eq k p.key) (Some p) (m k)) (respects_put m alike p.key (Some p))
    respects (Replace t x p q ∷ es) m alike = respects es (λ k. cond (eq k p.key) (Some q) (m k)) (respects_put m alike p.key (Some q))
    respects (Bury t x p ∷ es) m alike = respects es (λ k. cond (eq k p.key) None (m k)) (respects_put m alike p.key None)
    respects (Link t n ∷ es) m alike = respects es m alike
    respects (Mark t x p ∷ es) m alike = respects es m alike
    respects (Close t x ∷ es) m alike = respects es m alike
    respects (Place n x p ∷ es) m alike = respects es m alike
    respects (Finish t x p ∷ es) m alike = respects es m alike
    respects (Advance n c ∷ es) m alike = respects es m alike
    respects (Promote t n ∷ es) m alike = respects es m alike
    respects (Abort n ∷ es) m alike = respects es m alike
    respects (Take n ∷ es) m alike = respects es m alike

    -- equal keys have one pair
    pub replay-alike : (es : List (Exchange (Stored K V))) (j k : K) → eq j k ≡ true → replay eq es j ≡ replay eq es k
    replay-alike es = respects es (λ k. None) (λ j k same. refl)

    -- without blocking a pair of the map is in a slot that a search reaches
    held_incremental : (state : State (Stored K V)) (m : Map K V) → IsIncrementalState g state m → (j : K) (p : Stored K V) → m j ≡ Some p → (t : ℕ)
        × (x : ℕ) × (named (state.slot t x) ≡ Some p)
    held_incremental state m holds j p e =
        let o = subst (IsTied (IsOn state.first state.next) g.places (look g state j)) e (holds.class j).tied in
        let word : Word (Stored K V) = state.slot o.table (g.place j o.table o.at) in (
          o.table,
          g.place j o.table o.at,
          ⊎_elim (λ (here : look g state j o.table o.at ≡ Here p). ap named (view_here g j word p here))
              (λ (leaving : look g state j o.table o.at ≡ Leaving p). ap named (view_leaving g j word p leaving).0) o.has,
        )

    -- with blocking it is in the root
    held_blocking : (state : State (Stored K V)) (m : Map K V) → IsKeeping g state m → g.blocking ≡ true → (j : K) (p : Stored K V) → m j ≡ Some p
        → (t : ℕ) × (x : ℕ) × (named (state.slot t x) ≡ Some p)
    held_blocking state m keeps blocks j p e =
        let there : lookup g.same g.key (content g state) j ≡ Some p = content_is g law state m keeps (λ b. absurd (cc (b, blocks))) j ∙ e in
        let found = table_found g (state.slot state.root) (g.size state.root) j p there in
        (state.root, found.0, ⊎_elim (λ is. ap named is) (λ is. ap named is) found.2)

    -- a pair of the map is in a slot
    pub held_in_slot : (es : List (Exchange (Stored K V))) → AllAllowed g start es → (j : K) (p : Stored K V) → replay eq es j ≡ Some p → (t : ℕ)
        × (x : ℕ) × (named ((run es start).slot t x) ≡ Some p)
    held_in_slot es may j p e =
        let keeps = keeping g law es may in
        let there : map_left g es j ≡ Some p = ap (λ m. m j) (map_replayed hash mode tables es (λ k. None)) ∙ e in
        ⊎_elim
        (λ (incremental : (g.blocking ≡ false) × IsIncrementalState g (run es start) (map_left g es)).
        held_incremental (run es start) (map_left g es) incremental.1 j p there)
        (λ (blocks : (g.blocking ≡ true) × IsBlockingState g (run es start) (map_left g es)).
        held_blocking (run es start) (map_left g es) keeps blocks.0 j p there)
        keeps

    -- the exchange after these takes out the pair that the map has there
    pub next_legal : (es : List (Exchange (Stored K V))) (e : Exchange (Stored K V)) → AllAllowed g start (es ++ e ∷ []) → IsLegal g (replay eq es) e
    next_legal es e may = subst (λ m. IsLegal g m e) (map_replayed hash mode tables es (λ k. None))
        (last es (λ k. None) (legal_changes g law (es ++ e ∷ []) may))
      where
        last : (fs : List (Exchange (Stored K V))) (m : Map K V) → AllLegal g m (fs ++ e ∷ []) → IsLegal g (map_of g m fs) e
        last [] m legal = legal.0
        last (f ∷ fs) m legal = last fs (map_after g m f) legal.1
