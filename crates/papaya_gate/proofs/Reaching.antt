-- A gated book's invariant, opened with no step. Assumes `Logic`.
use Rattle.std.proofs.Common.{◌≡◌, ℕ, Bool, Some, List, [], ◌∷◌, map}
use Rattle.std.specs.Prelude.{filter}
use mathlib.Core.List.{IsPrefix}
use seplogic.Ra.Ura.{Ura}
use base.Fraction.{full_share}
use base.Stored.{Gv, Coded}
use base.Growing.{latest}
use base.Logic.{SProp, ent, sep, ex, guard, guard_i, upd, upd_i, id⊢}
use base.Fml.{Share, Fml, ftrue, fsep, fex, finv, fnamed}
use types.Logic.{Logic, sem}
use types.Growing.{latest_shows, latest_bounds}
use types.Kit.{‵, raw, ◌⊛◌, some, given, split3, fsplit3, fjoin3, pick, show, use3, ◌$◌, ◌∵◌, !, qed, by, move, keep, drop}
use types.Kit.{split, fsplit, fjoin, fpick, fpack, learn, check, frame, assume, suffices, settle, done, use1, use2, updating, await, now}
use denote.Steps.{nothing}
use Rattle.logbook.specs.Kept.{logs, Rules, rules, roster, reached, standing, contents, seen_owns}
use Rattle.logbook.specs.Pages.{Cell, Book, Calm}
use Rattle.logbook.proofs.Roster.{prefix_out}
use Rattle.logbook.proofs.Steps as steps
use Rattle.papaya_gate.specs.Eras.{Era, Author, names_of, owns_of, IsMerge}
use Rattle.papaya_gate.specs.Kept.{eras_name, leave_name, inner_names, exactly, leave, gate, gated, gate_holds, team_owns}
use Rattle.papaya_gate.proofs.Gates as gates

pub calm : {E : Type 0} (c : E → Gv) (keeps : List ℕ → List E → Fml) (tracks : E → Bool) (names : List ℕ)
    → Calm (keeps (inner_names names)) → Calm (gated c keeps tracks names)
calm c keeps tracks names inner xs = (inner xs, gates.gate_keyless c (eras_name names) (leave_name names) (filter tracks xs))

module _ {M : Type 1} {𝓤 : Ura M} (𝓛 : Logic 𝓤) {E : Type 0} (cv : Coded E) where
  open 𝓛 use {H}

  abbrev Pr : Type 2
  Pr = SProp 𝓤

  abbrev ◌⊢◌ : Pr → Pr → Type 1
  P ⊢ Q = ent 𝓤 P Q

  abbrev ◌∗◌ : Pr → Pr → Pr
  P ∗ Q = sep 𝓤 P Q

  abbrev ⟦◌⟧ : Fml → Pr
  ⟦ P ⟧ = sem 𝓛 P

  infix 26 ◌⊢◌
  infixr 35 ◌∗◌
  module _ (holds : List Cell → List E → Type 0) (shows : List E → List E) (keeps : List ℕ → List E → Fml) (tracks : E → Bool)
      (bk : Book) (names : List ℕ) where
    abbrev pub rule : Rules E
    rule = rules holds shows (gated cv.code keeps tracks)

    abbrev γ : ℕ
    γ = eras_name names

    abbrev τ : ℕ
    τ = leave_name names

    abbrev pub tracked : List E → List E
    tracked log = filter tracks (shows log)

    abbrev book : List E → Fml
    book log = gate cv.code γ τ (tracked log)

    abbrev mine : List E → Fml
    mine log = keeps (inner_names names) (shows log)

    abbrev J : Fml
    J = contents cv.code rule bk.log_name bk.cells_name names

    abbrev N : Fml
    N = fnamed bk.number J

    abbrev had : List E → Fml
    had = reached cv.code bk.log_name

    abbrev top : List E → Fml
    top log = latest logs full_share bk.log_name (map cv.code log)

    abbrev K : List E → Fml
    K = seen_owns cv.code rule bk names

    abbrev Q : Type 0
    Q = Calm (rule.keeps names)

    opened : (log : List E) → ⟦ K log ⟧ ⊢ guard 𝓤 Q (⟦ N ⟧ ∗ ⟦ had log ⟧)
    unfolding Rattle.logbook.specs.Kept.seal
    opened log = id⊢ 𝓤 _

    closed : (log : List E) → Q → ⟦ N ⟧ ∗ ⟦ had log ⟧ ⊢ ⟦ K log ⟧
    unfolding Rattle.logbook.specs.Kept.seal
    closed log q = guard_i 𝓤 Q (⟦ N ⟧ ∗ ⟦ had log ⟧) q

    under : (log l : List E) → ⟦ top log ⟧ ∗ ⟦ had l ⟧ ⊢ guard 𝓤 (IsPrefix l log) (⟦ top log ⟧ ∗ ⟦ had l ⟧)
    under log l = qed 𝓛 (‵ (top log) ∷ ‵ (had l) ∷ []) ∵
        use2 𝓛 (given (IsPrefix (map cv.code l) (map cv.code log)) (‵ (top log) ⊛ ‵ (had l)))
        (latest_bounds logs 𝓛 full_share bk.log_name (map cv.code log) (map cv.code l)) $
        learn ! (λ p. check ! (prefix_out cv l log p) $ done !)

    shown : (log : List E) → ⟦ top log ⟧ ⊢ ⟦ top log ⟧ ∗ ⟦ had log ⟧
    shown log = latest_shows logs 𝓛 full_share bk.log_name (map cv.code log) (map cv.code log) (logs.same (map cv.code log))

    shut : (cs : List Cell) (log : List E) → holds cs log
        → ⟦ roster bk.cells_name 0 cs ⟧ ∗ ⟦ top log ⟧ ∗ ⟦ fsep (mine log) (book log) ⟧ ⊢ ⟦ J ⟧
    shut cs log so = qed 𝓛 (‵ (roster bk.cells_name 0 cs) ∷ ‵ (top log) ∷ ‵ (fsep (mine log) (book log)) ∷ []) ∵
        nothing ! $ fpack ! (holds cs log) (λ _. ftrue) so $ move ! (3 ∷ 0 ∷ []) $ fjoin ! $
        move ! (1 ∷ 2 ∷ 0 ∷ []) $ fjoin3 ! $ fpack ! (List Cell × List E) (standing cv.code rule bk.log_name bk.cells_name names) (cs, log) $ done !

    abbrev Open : List E → List Cell × List E → Pr
    Open l s = guard 𝓤 (holds s.0 s.1 × IsPrefix l s.1)
        (⟦ roster bk.cells_name 0 s.0 ⟧ ∗ ⟦ top s.1 ⟧ ∗ ⟦ fsep (mine s.1) (book s.1) ⟧)

    looked : (l : List E) → ⟦ J ⟧ ∗ ⟦ had l ⟧ ⊢ ex 𝓤 (Open l)
    looked l = qed 𝓛 (‵ J ∷ ‵ (had l) ∷ []) ∵ fpick ! (λ s. fsplit3 ! $ move ! (2 ∷ []) $ fsplit ! $ move ! (1 ∷ []) $ fpick ! (λ so. drop ! $
        move ! (2 ∷ 3 ∷ []) $ use2 𝓛 (given (IsPrefix l s.1) (‵ (top s.1) ⊛ ‵ (had l))) (under s.1 l) $
        learn ! (λ p. split ! $ show ! (Open l) s $ check ! (so, p) $ keep ! (3 ∷ 0 ∷ 2 ∷ []) $ done !)))

    abbrev seeing : List E → types.Kit.Item 𝓤
    seeing l = some (λ (s : List Cell × List E). given (holds s.0 s.1 × IsPrefix l s.1)
        (‵ (roster bk.cells_name 0 s.0) ⊛ ‵ (top s.1) ⊛ ‵ (fsep (mine s.1) (book s.1))))

    -- What is had of the gate, of the log as it is now. That log is then observed.
    abbrev pub Visited : List E → (List E → Pr) → List E → Pr
    Visited l Y log = guard 𝓤 (IsPrefix l log) (⟦ K log ⟧ ∗ Y log)

    visits : (l : List E) (X : Pr) (Y : List E → Pr) → ((log : List E) → ⟦ book log ⟧ ∗ X ⊢ upd 𝓤 (⟦ book log ⟧ ∗ Y log))
        → ⟦ K l ⟧ ∗ X ⊢ H.⇛ (ex 𝓤 (Visited l Y))
    visits l X Y h = let Z : Pr = ex 𝓤 (Visited l Y) in qed 𝓛 (‵ (K l) ∷ raw X ∷ []) ∵
        use1 𝓛 (given Q (‵ N ⊛ ‵ (had l))) (opened l) $ learn ! (λ calm. split ! $
        use1 𝓛 (‵ N ⊛ ‵ N) (𝓛.invs.named_dup bk.number J) $ split ! $ use1 𝓛 (‵ (finv J)) (𝓛.invs.named_inv bk.number J) $
        suffices ! _ (𝓛.invs.inv_acc J Z) $ frame ! $ assume ! (‵ J) $ move ! (0 ∷ 2 ∷ []) $ use2 𝓛 (seeing l) (looked l) $
        pick ! (λ s. learn ! (λ so. split3 ! $ move ! (2 ∷ []) $ fsplit ! $
        -- [what the inner rule keeps; what is for the gate; the roster; the log; the book's name; X]
        move ! (1 ∷ 5 ∷ []) $ use2 𝓛 (raw (upd 𝓤 (⟦ book s.1 ⟧ ∗ Y s.1))) (h s.1) $ settle 𝓛 (⟦ J ⟧ ∗ Z) (‵ (book s.1) ⊛ raw (Y s.1)) $ split ! $
        suffices ! _ (upd_i 𝓤 (⟦ J ⟧ ∗ Z)) $ move ! (2 ∷ 0 ∷ []) $ fjoin ! $
        -- [what the book keeps; Y; the roster; the log; the book's name]
        move ! (3 ∷ []) $ use1 𝓛 (‵ (top s.1) ⊛ ‵ (had s.1)) (shown s.1) $ split ! $ move ! (4 ∷ 0 ∷ 2 ∷ []) $
        use3 𝓛 (‵ J) (shut s.0 s.1 so.0) $ frame ! $ show ! (Visited l Y) s.1 $ check ! so.1 $
        move ! (2 ∷ 0 ∷ []) $ use2 𝓛 (‵ (K s.1)) (closed s.1 calm) $ done !)))

    pub freezing : (l : List E) → ⟦ K l ⟧ ∗ ⟦ leave τ full_share ⟧
        ⊢ H.⇛ (ex 𝓤 (Visited l (λ log. ⟦ fex (List ℕ × ℕ) (gates.new_era 𝓛 cv γ τ (tracked log)) ⟧)))
    freezing l = visits l ⟦ leave τ full_share ⟧ (λ log. ⟦ fex (List ℕ × ℕ) (gates.new_era 𝓛 cv γ τ (tracked log)) ⟧)
        (λ log. gates.freezes 𝓛 cv γ τ (tracked log))

    pub thawing : (l : List E) (era : Era) → ⟦ K l ⟧ ∗ ⟦ gate_holds γ τ (Some era) full_share ⟧ ⊢ H.⇛ (ex 𝓤 (Visited l (λ log. ⟦ leave τ full_share ⟧)))
    thawing l era = visits l ⟦ gate_holds γ τ (Some era) full_share ⟧ (λ log. ⟦ leave τ full_share ⟧) (λ log.
        let Z : Pr = ⟦ book log ⟧ ∗ ⟦ leave τ full_share ⟧ in
        qed 𝓛 (‵ (book log) ∷ ‵ (gate_holds γ τ (Some era) full_share) ∷ []) ∵ suffices ! _ (upd_i 𝓤 Z) $
        move ! (1 ∷ []) $ fsplit ! $ keep ! (2 ∷ 0 ∷ []) $ by ! (gates.thaws 𝓛 cv γ τ (tracked log) era.eras))

    pub coming : (l : List E) (era : Era) → ⟦ K l ⟧ ∗ ⟦ gate_holds γ τ (Some era) full_share ⟧
        ⊢ H.⇛ (ex 𝓤 (Visited l (λ log. ⟦ fex ℕ (gates.new_author 𝓛 cv γ τ era) ⟧)))
    coming l era = visits l ⟦ gate_holds γ τ (Some era) full_share ⟧ (λ log. ⟦ fex ℕ (gates.new_author 𝓛 cv γ τ era) ⟧)
        (λ log. gates.comes 𝓛 cv γ τ (tracked log) era)

    -- The gate in an era and its only author, by shares.
    abbrev pub Two : Share → Share → Era → Author E → Pr
    Two q r era a = ⟦ gate_holds γ τ (Some era) q ⟧ ∗ ⟦ exactly cv.code r a.name a.own ⟧

    abbrev pub Known : Share → Share → Era → Author E → List E → Pr
    Known q r era a log = guard 𝓤 (tracked log ≡ a.own) (Two q r era a)

    pub knowing : (l : List E) (q r : Share) (era : Era) (a : Author E) → era.roll ≡ a.name ∷ []
        → ⟦ K l ⟧ ∗ Two q r era a ⊢ H.⇛ (ex 𝓤 (Visited l (Known q r era a)))
    knowing l q r era a only = visits l (Two q r era a) (Known q r era a) (λ log. let Z : Pr = ⟦ book log ⟧ ∗ Known q r era a log in
        qed 𝓛 (‵ (book log) ∷ raw (Two q r era a) ∷ []) ∵ suffices ! _ (upd_i 𝓤 Z) $
        use2 𝓛 (given (tracked log ≡ a.own) (‵ (book log) ⊛ raw (Two q r era a))) (gates.whole 𝓛 cv γ τ (tracked log) q r era a only) $
        learn ! (λ all. split ! $ frame ! $ check ! all $ done !))

    -- The gate in an era, by shares, and all its authors.
    abbrev pub Team : Share → Era → List (Author E) → Pr
    Team q era authors = ⟦ gate_holds γ τ (Some era) q ⟧ ∗ ⟦ team_owns cv.code authors ⟧

    abbrev pub Gathered : Share → Era → List (Author E) → List E → Pr
    Gathered q era authors log = guard 𝓤 (IsMerge (owns_of authors) (tracked log)) (Team q era authors)

    pub gathering : (l : List E) (q : Share) (era : Era) (authors : List (Author E)) → era.roll ≡ names_of authors
        → ⟦ K l ⟧ ∗ Team q era authors ⊢ H.⇛ (ex 𝓤 (Visited l (Gathered q era authors)))
    gathering l q era authors all = visits l (Team q era authors) (Gathered q era authors) (λ log. let Z : Pr = ⟦ book log ⟧ ∗ Gathered q era authors log in
        qed 𝓛 (‵ (book log) ∷ raw (Team q era authors) ∷ []) ∵ suffices ! _ (upd_i 𝓤 Z) $
        use2 𝓛 (given (IsMerge (owns_of authors) (tracked log)) (‵ (book log) ⊛ raw (Team q era authors)))
        (gates.gathers 𝓛 cv γ τ (tracked log) authors q era all) $
        learn ! (λ merge. split ! $ frame ! $ check ! merge $ done !))

    abbrev pub United : List (Author E) → List E → Pr
    United authors log = guard 𝓤 (IsMerge (owns_of authors) (tracked log)) ⟦ fex (List ℕ × ℕ) (gates.new_era 𝓛 cv γ τ (tracked log)) ⟧

    pub uniting : (l : List E) (era : Era) (authors : List (Author E)) → era.roll ≡ names_of authors
        → ⟦ K l ⟧ ∗ Team full_share era authors ⊢ H.⇛ (ex 𝓤 (Visited l (United authors)))
    uniting l era authors all = visits l (Team full_share era authors) (United authors) (λ log.
        let xs : List E = tracked log in let new : Fml = fex (List ℕ × ℕ) (gates.new_era 𝓛 cv γ τ xs) in let Z : Pr = ⟦ book log ⟧ ∗ United authors log in
        qed 𝓛 (‵ (book log) ∷ raw (Team full_share era authors) ∷ []) ∵
        use2 𝓛 (given (IsMerge (owns_of authors) xs) (‵ (book log) ⊛ ‵ (gate_holds γ τ (Some era) full_share) ⊛ ‵ (team_owns cv.code authors)))
        (gates.gathers 𝓛 cv γ τ xs authors full_share era all) $ learn ! (λ merge. split3 ! $
        move ! (2 ∷ []) $ drop ! $ move ! (1 ∷ []) $ fsplit ! $ move ! (1 ∷ []) $ drop ! $ move ! (1 ∷ 0 ∷ []) $
        use2 𝓛 (‵ (book log) ⊛ ‵ (leave τ full_share)) (gates.thaws 𝓛 cv γ τ xs era.eras) $ split ! $
        use2 𝓛 (raw (upd 𝓤 (⟦ book log ⟧ ∗ ⟦ new ⟧))) (gates.freezes 𝓛 cv γ τ xs) $ settle 𝓛 Z (‵ (book log) ⊛ ‵ new) $ split ! $
        suffices ! _ (upd_i 𝓤 Z) $ frame ! $ check ! merge $ done !))

  -- The names of one token, and what another has observed of the same book.
  module _ (any : Rules E) (bk : Book) (ns ms : List ℕ) (l k : List E) where
    abbrev had_of : List E → Fml
    had_of = reached cv.code bk.log_name

    abbrev stays : Fml
    stays = fnamed bk.number (contents cv.code any bk.log_name bk.cells_name ns)

    taken : ⟦ seen_owns cv.code any bk ns l ⟧ ⊢ guard 𝓤 (Calm (any.keeps ns)) (⟦ stays ⟧ ∗ ⟦ had_of l ⟧)
    unfolding Rattle.logbook.specs.Kept.seal
    taken = id⊢ 𝓤 _

    given_back : Calm (any.keeps ns) → ⟦ stays ⟧ ∗ ⟦ had_of k ⟧ ⊢ ⟦ seen_owns cv.code any bk ns k ⟧
    unfolding Rattle.logbook.specs.Kept.seal
    given_back q = guard_i 𝓤 (Calm (any.keeps ns)) (⟦ stays ⟧ ∗ ⟦ had_of k ⟧) q

    pub aligned : ⟦ seen_owns cv.code any bk ns l ⟧ ∗ ⟦ seen_owns cv.code any bk ms k ⟧ ⊢ ⟦ seen_owns cv.code any bk ns k ⟧
    aligned = qed 𝓛 (‵ (seen_owns cv.code any bk ns l) ∷ ‵ (seen_owns cv.code any bk ms k) ∷ []) ∵
        use1 𝓛 (given (Calm (any.keeps ns)) (‵ stays ⊛ ‵ (had_of l))) taken $ learn ! (λ q. split ! $
        move ! (2 ∷ []) $ use1 𝓛 (‵ (had_of k)) (steps.seen_log 𝓛 cv any bk ms k) $ keep ! (1 ∷ 0 ∷ []) $ by ! (given_back q))
