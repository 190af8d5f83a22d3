-- The run of a call that calls another for a result with its evidence, and returns that result. Assumes `Logic`.
use Rattle.std.proofs.Common.{◌≡◌, ℕ, List, [], ◌∷◌, ◌++◌, refl, sym, subst}
use lib.Dec.{T}
use seplogic.Ra.Ura.{Ura}
use mir.Syntax.{Body, Callee, Fn, Kind, Home, Local, Opd, Sym, Ty, Tys, call, copy, field, local, place, return, rv_opd, assign, seq, tcons, tnil, ty_struct}
use mir.Val.{Val}
use base.Logic.{SProp, ent, ex, sep}
use prog.Model.{Model}
use prog.Wp.{WpFn}
use types.Logic.{Logic}
use types.Kit.{raw, ◌⊛◌, some, later, ◌$◌, ◌∵◌, !, qed, by, split, pick, use1, await}
use types.Run.{stop, fld, of_opd, no_more, and_then, returns, enter}
use types.ByLocal.{alloc_all, pass_all, free_all, look_at, get, get_in, sets, lands_as}
use types.Part.{sub, whole}
use contract.Monad.{fact}
use contract.Running.{Running, tables}
use denote.Steps.{heard}
use denote.Triple.Call.{calls_from}
use denote.Triple.Table.{framed}
use Rattle.papaya_map.proofs.Telling.{Good, One, held}

-- the callee is called with these, and its result with the evidence is stored in a local, whose
-- first part is the result
abbrev pub body_of : Callee → List Opd → (answer told : ℕ) → Body
body_of f os answer told = seq (call f os (place told []))
    (seq (assign (place answer []) (rv_opd (copy (place told (field 0 ∷ []))))) (seq (assign (place 0 []) (rv_opd (copy (place answer [])))) return))

-- an argument that is moved is stored in a local of its own first
abbrev pub moved : (to from : ℕ) → Body → Body
moved to from = seq (assign (place to []) (rv_opd (copy (place from []))))

-- the result fits its type in each place: in the result's local, in its own, and in the callee's
-- result with the evidence
abbrev pub Fits : (τ τ₀ τₐ τₜ : Ty) → Type 0
Fits τ τ₀ τₐ τₜ = (w : Val) → Good τ w → Good τ₀ w × Good τₐ w × Good τₜ (held w)

-- a function of these locals
abbrev pub fn_of : (n m p : ℕ) → List (ℕ × ℕ) → List Kind → List Local → Body → Fn
fn_of n m p os ks ls b = record { lifetimes = n; outlives = os; ty_params = ks; givens = m; params = p; locals = ls; body = b }

module _ {M : Type 1} (𝓤 : Ura M) (𝓛 : Logic 𝓤) (𝓜 : Model 𝓤 𝓛.H) (𝓡 : Running 𝓤 𝓛.H 𝓜) where
  -- The code runs from the callee's precondition to a postcondition that follows from the callee's
  -- one.
  pub record Walk (fn : Fn) (f : Callee) (τ : Ty) (vs : List Val) : Type 2 where
    pub runs : (Pre : SProp 𝓤) (Q Left Post : Val → SProp 𝓤) → ent 𝓤 Pre ((tables 𝓤 𝓛.H 𝓜 𝓡 𝓡.env).C f vs Q)
        → ((v : Val) → ent 𝓤 (Q v) (𝓛.H.⇛ (ex 𝓤 (λ (w : Val). sep 𝓤 (fact 𝓤 (Good τ w × (v ≡ held w))) (Left w)))))
        → ((w : Val) → Good τ w → ent 𝓤 (Left w) (Post w)) → ent 𝓤 Pre (WpFn 𝓤 𝓛.H (tables 𝓤 𝓛.H 𝓜 𝓡 𝓡.env).C (tables 𝓤 𝓛.H 𝓜 𝓡 𝓡.env).Λ fn vs Post)

  at_rr : {n m p : ℕ} {os : List (ℕ × ℕ)} {ks : List Kind} {f : Callee} {τ τ₀ τ₁ τ₂ τₐ τₜ : Ty} {ν : Sym} {τs : Tys} {h₀ h₁ h₂ hₐ hₜ : Home} {v₁ v₂ :
      Val} → Good τ₁ v₁ → Good τ₂ v₂ → Fits τ τ₀ τₐ (ty_struct ν (tcons τₜ τs))
      → Walk (fn_of n m p os ks (local τ₀ h₀ ∷ local τ₁ h₁ ∷ local τ₂ h₂ ∷ local τₐ hₐ ∷ local (ty_struct ν (tcons τₜ τs)) hₜ ∷ [])
      (body_of f (copy (place 1 []) ∷ copy (place 2 []) ∷ []) 3 4)) f τ (v₁ ∷ v₂ ∷ [])
  at_rr {n} {m} {p} {os} {ks} {f} {τ} {τ₀} {τ₁} {τ₂} {τₐ} {τₜ} {ν} {τs} {h₀} {h₁} {h₂} {hₐ} {hₜ} {v₁} {v₂} g₁ g₂ fits = record {
    runs = λ Pre Q Left Post asks gives ends. let 𝓣 = tables 𝓤 𝓛.H 𝓜 𝓡 𝓡.env in
        qed 𝓛 (raw Pre ∷ []) ∵ enter ! 𝓣.C 𝓣.Λ (fn_of n m p os ks
        (local τ₀ h₀ ∷ local τ₁ h₁ ∷ local τ₂ h₂ ∷ local τₐ hₐ ∷ local (ty_struct ν (tcons τₜ τs)) hₜ ∷ [])
        (body_of f (copy (place 1 []) ∷ copy (place 2 []) ∷ []) 3 4)) (v₁ ∷ v₂ ∷ []) Post $ alloc_all ! (λ l. pass_all ! refl (g₁, (g₂, tt)) $
        calls_from ! (framed 𝓤 𝓛.H 𝓜 𝓣) (raw Pre) (v₁ ∷ v₂ ∷ []) Q asks (and_then ! (get ! refl) (and_then ! (get ! refl) (no_more !))) (λ v.
        use1 𝓛 (later (some (λ (w : Val). raw (fact 𝓤 (Good τ w × (v ≡ held w))) ⊛ raw (Left w)))) (gives v) $ await ! tt $ pick !
        (λ w. split ! $ heard ! _ (λ is.
        lands_as ! is.1 refl (fits w is.0).2 $ sets ! (of_opd ! (get_in ! (fld ! refl (stop !)) (sub ! 0 refl (whole !)))) refl (fits w is.0).1 $ sets
        ! (of_opd ! (get ! refl)) refl (fits w is.0).0 $
        returns ! (look_at ! 0 refl) $ free_all ! refl $ by ! (ends w is.0)))));
  }

  pub walk_rr : {n m p : ℕ} {os : List (ℕ × ℕ)} {ks : List Kind} {f : Callee} {τ τ₀ τ₁ τ₂ τₐ τₜ : Ty} {ν : Sym} {τs : Tys} {h₀ h₁ h₂ hₐ hₜ : Home} {u₁
      u₂ : List Val} → One τ₁ u₁ → One τ₂ u₂ → Fits τ τ₀ τₐ (ty_struct ν (tcons τₜ τs))
      → Walk (fn_of n m p os ks (local τ₀ h₀ ∷ local τ₁ h₁ ∷ local τ₂ h₂ ∷ local τₐ hₐ ∷ local (ty_struct ν (tcons τₜ τs)) hₜ ∷ [])
      (body_of f (copy (place 1 []) ∷ copy (place 2 []) ∷ []) 3 4)) f τ (u₁ ++ (u₂ ++ []))
  walk_rr {n} {m} {p} {os} {ks} {f} {τ} {τ₀} {τ₁} {τ₂} {τₐ} {τₜ} {ν} {τs} {h₀} {h₁} {h₂} {hₐ} {hₜ} {u₁} {u₂} o₁ o₂
      fits = subst (Walk (fn_of n m p os ks (local τ₀ h₀ ∷ local τ₁ h₁ ∷ local τ₂ h₂ ∷ local τₐ hₐ ∷ local (ty_struct ν (tcons τₜ τs)) hₜ ∷ [])
      (body_of f (copy (place 1 []) ∷ copy (place 2 []) ∷ []) 3 4)) f τ) (sym (λ i. o₁.is i ++ (o₂.is i ++ []))) (at_rr o₁.good o₂.good fits)

  at_rrr : {n m p : ℕ} {os : List (ℕ × ℕ)} {ks : List Kind} {f : Callee} {τ τ₀ τ₁ τ₂ τ₃ τₐ τₜ : Ty} {ν : Sym} {τs : Tys} {h₀ h₁ h₂ h₃ hₐ hₜ :
      Home} {v₁ v₂ v₃ : Val} → Good τ₁ v₁ → Good τ₂ v₂ → Good τ₃ v₃ → Fits τ τ₀ τₐ (ty_struct ν (tcons τₜ τs))
      → Walk (fn_of n m p os ks (local τ₀ h₀ ∷ local τ₁ h₁ ∷ local τ₂ h₂ ∷ local τ₃ h₃ ∷ local τₐ hₐ ∷ local (ty_struct ν (tcons τₜ τs)) hₜ ∷ [])
      (body_of f (copy (place 1 []) ∷ copy (place 2 []) ∷ copy (place 3 []) ∷ []) 4 5)) f τ (v₁ ∷ v₂ ∷ v₃ ∷ [])
  at_rrr {n} {m} {p} {os} {ks} {f} {τ} {τ₀} {τ₁} {τ₂} {τ₃} {τₐ} {τₜ} {ν} {τs} {h₀} {h₁} {h₂} {h₃} {hₐ} {hₜ} {v₁} {v₂} {v₃} g₁ g₂ g₃ fits = record {
    runs = λ Pre Q Left Post asks gives ends. let 𝓣 = tables 𝓤 𝓛.H 𝓜 𝓡 𝓡.env in
        qed 𝓛 (raw Pre ∷ []) ∵ enter ! 𝓣.C 𝓣.Λ (fn_of n m p os ks
        (local τ₀ h₀ ∷ local τ₁ h₁ ∷ local τ₂ h₂ ∷ local τ₃ h₃ ∷ local τₐ hₐ ∷ local (ty_struct ν (tcons τₜ τs)) hₜ ∷ [])
        (body_of f (copy (place 1 []) ∷ copy (place 2 []) ∷ copy (place 3 []) ∷ []) 4 5)) (v₁ ∷ v₂ ∷ v₃ ∷ []) Post $ alloc_all !
        (λ l. pass_all ! refl (g₁, (g₂, (g₃, tt))) $
        calls_from ! (framed 𝓤 𝓛.H 𝓜 𝓣) (raw Pre) (v₁ ∷ v₂ ∷ v₃ ∷ []) Q asks
        (and_then ! (get ! refl) (and_then ! (get ! refl) (and_then ! (get ! refl) (no_more !)))) (λ v.
        use1 𝓛 (later (some (λ (w : Val). raw (fact 𝓤 (Good τ w × (v ≡ held w))) ⊛ raw (Left w)))) (gives v) $ await ! tt $ pick !
        (λ w. split ! $ heard ! _ (λ is.
        lands_as ! is.1 refl (fits w is.0).2 $ sets ! (of_opd ! (get_in ! (fld ! refl (stop !)) (sub ! 0 refl (whole !)))) refl (fits w is.0).1 $ sets
        ! (of_opd ! (get ! refl)) refl (fits w is.0).0 $
        returns ! (look_at ! 0 refl) $ free_all ! refl $ by ! (ends w is.0)))));
  }

  pub walk_rrr : {n m p : ℕ} {os : List (ℕ × ℕ)} {ks : List Kind} {f : Callee} {τ τ₀ τ₁ τ₂ τ₃ τₐ τₜ : Ty} {ν : Sym} {τs : Tys} {h₀ h₁ h₂ h₃ hₐ hₜ :
      Home} {u₁ u₂ u₃ : List Val} → One τ₁ u₁ → One τ₂ u₂ → One τ₃ u₃ → Fits τ τ₀ τₐ (ty_struct ν (tcons τₜ τs))
      → Walk (fn_of n m p os ks (local τ₀ h₀ ∷ local τ₁ h₁ ∷ local τ₂ h₂ ∷ local τ₃ h₃ ∷ local τₐ hₐ ∷ local (ty_struct ν (tcons τₜ τs)) hₜ ∷ [])
      (body_of f (copy (place 1 []) ∷ copy (place 2 []) ∷ copy (place 3 []) ∷ []) 4 5)) f τ (u₁ ++ (u₂ ++ (u₃ ++ [])))
  walk_rrr {n} {m} {p} {os} {ks} {f} {τ} {τ₀} {τ₁} {τ₂} {τ₃} {τₐ} {τₜ} {ν} {τs} {h₀} {h₁} {h₂} {h₃} {hₐ} {hₜ} {u₁} {u₂} {u₃} o₁ o₂ o₃
      fits = subst (Walk (fn_of n m p os ks (local τ₀ h₀ ∷ local τ₁ h₁ ∷ local τ₂ h₂ ∷ local τ₃ h₃ ∷ local τₐ hₐ ∷ local (ty_struct ν (tcons τₜ τs)) hₜ
      ∷ []) (body_of f (copy (place 1 []) ∷ copy (place 2 []) ∷ copy (place 3 []) ∷ []) 4 5)) f τ) (sym (λ i. o₁.is i ++ (o₂.is i ++ (o₃.is i ++ []))))
      (at_rrr o₁.good o₂.good o₃.good fits)

  at_rro : {n m p : ℕ} {os : List (ℕ × ℕ)} {ks : List Kind} {f : Callee} {τ τ₀ τ₁ τ₂ τ₃ τₐ τₜ : Ty} {ν : Sym} {τs : Tys} {h₀ h₁ h₂ h₃ hₐ hₜ m₃ :
      Home} {v₁ v₂ v₃ : Val} → Good τ₁ v₁ → Good τ₂ v₂ → Good τ₃ v₃ → Fits τ τ₀ τₐ (ty_struct ν (tcons τₜ τs))
      → Walk (fn_of n m p os ks (local τ₀ h₀ ∷ local τ₁ h₁ ∷ local τ₂ h₂ ∷ local τ₃ h₃ ∷ local τₐ hₐ ∷ local (ty_struct ν (tcons τₜ τs)) hₜ ∷ local τ₃
      m₃ ∷ []) (moved 6 3 (body_of f (copy (place 1 []) ∷ copy (place 2 []) ∷ copy (place 6 []) ∷ []) 4 5))) f τ (v₁ ∷ v₂ ∷ v₃ ∷ [])
  at_rro {n} {m} {p} {os} {ks} {f} {τ} {τ₀} {τ₁} {τ₂} {τ₃} {τₐ} {τₜ} {ν} {τs} {h₀} {h₁} {h₂} {h₃} {hₐ} {hₜ} {m₃} {v₁} {v₂} {v₃} g₁ g₂ g₃ fits = record {
    runs = λ Pre Q Left Post asks gives ends. let 𝓣 = tables 𝓤 𝓛.H 𝓜 𝓡 𝓡.env in
        qed 𝓛 (raw Pre ∷ []) ∵ enter ! 𝓣.C 𝓣.Λ (fn_of n m p os ks
        (local τ₀ h₀ ∷ local τ₁ h₁ ∷ local τ₂ h₂ ∷ local τ₃ h₃ ∷ local τₐ hₐ ∷ local (ty_struct ν (tcons τₜ τs)) hₜ ∷ local τ₃ m₃ ∷ [])
        (moved 6 3 (body_of f (copy (place 1 []) ∷ copy (place 2 []) ∷ copy (place 6 []) ∷ []) 4 5))) (v₁ ∷ v₂ ∷ v₃ ∷ []) Post $ alloc_all !
        (λ l. pass_all ! refl (g₁, (g₂, (g₃, tt))) $ sets ! (of_opd ! (get ! refl)) refl g₃ $
        calls_from ! (framed 𝓤 𝓛.H 𝓜 𝓣) (raw Pre) (v₁ ∷ v₂ ∷ v₃ ∷ []) Q asks
        (and_then ! (get ! refl) (and_then ! (get ! refl) (and_then ! (get ! refl) (no_more !)))) (λ v.
        use1 𝓛 (later (some (λ (w : Val). raw (fact 𝓤 (Good τ w × (v ≡ held w))) ⊛ raw (Left w)))) (gives v) $ await ! tt $ pick !
        (λ w. split ! $ heard ! _ (λ is.
        lands_as ! is.1 refl (fits w is.0).2 $ sets ! (of_opd ! (get_in ! (fld ! refl (stop !)) (sub ! 0 refl (whole !)))) refl (fits w is.0).1 $ sets
        ! (of_opd ! (get ! refl)) refl (fits w is.0).0 $
        returns ! (look_at ! 0 refl) $ free_all ! refl $ by ! (ends w is.0)))));
  }

  pub walk_rro : {n m p : ℕ} {os : List (ℕ × ℕ)} {ks : List Kind} {f : Callee} {τ τ₀ τ₁ τ₂ τ₃ τₐ τₜ : Ty} {ν : Sym} {τs : Tys} {h₀ h₁ h₂ h₃ hₐ hₜ m₃ :
      Home} {u₁ u₂ u₃ : List Val} → One τ₁ u₁ → One τ₂ u₂ → One τ₃ u₃ → Fits τ τ₀ τₐ (ty_struct ν (tcons τₜ τs))
      → Walk (fn_of n m p os ks (local τ₀ h₀ ∷ local τ₁ h₁ ∷ local τ₂ h₂ ∷ local τ₃ h₃ ∷ local τₐ hₐ ∷ local (ty_struct ν (tcons τₜ τs)) hₜ ∷ local τ₃
      m₃ ∷ []) (moved 6 3 (body_of f (copy (place 1 []) ∷ copy (place 2 []) ∷ copy (place 6 []) ∷ []) 4 5))) f τ (u₁ ++ (u₂ ++ (u₃ ++ [])))
  walk_rro {n} {m} {p} {os} {ks} {f} {τ} {τ₀} {τ₁} {τ₂} {τ₃} {τₐ} {τₜ} {ν} {τs} {h₀} {h₁} {h₂} {h₃} {hₐ} {hₜ} {m₃} {u₁} {u₂} {u₃} o₁ o₂ o₃
      fits = subst (Walk (fn_of n m p os ks (local τ₀ h₀ ∷ local τ₁ h₁ ∷ local τ₂ h₂ ∷ local τ₃ h₃ ∷ local τₐ hₐ ∷ local (ty_struct ν (tcons τₜ τs)) hₜ
      ∷ local τ₃ m₃ ∷ []) (moved 6 3 (body_of f (copy (place 1 []) ∷ copy (place 2 []) ∷ copy (place 6 []) ∷ []) 4 5))) f τ)
      (sym (λ i. o₁.is i ++ (o₂.is i ++ (o₃.is i ++ [])))) (at_rro o₁.good o₂.good o₃.good fits)

  at_rrro : {n m p : ℕ} {os : List (ℕ × ℕ)} {ks : List Kind} {f : Callee} {τ τ₀ τ₁ τ₂ τ₃ τ₄ τₐ τₜ : Ty} {ν : Sym} {τs : Tys} {h₀ h₁ h₂ h₃ h₄ hₐ hₜ
      m₄ : Home} {v₁ v₂ v₃ v₄ : Val} → Good τ₁ v₁ → Good τ₂ v₂ → Good τ₃ v₃ → Good τ₄ v₄ → Fits τ τ₀ τₐ (ty_struct ν (tcons τₜ τs))
      → Walk (fn_of n m p os ks (local τ₀ h₀ ∷ local τ₁ h₁ ∷ local τ₂ h₂ ∷ local τ₃ h₃ ∷ local τ₄ h₄ ∷ local τₐ hₐ ∷ local (ty_struct ν (tcons τₜ τs))
      hₜ ∷ local τ₄ m₄ ∷ []) (moved 7 4 (body_of f (copy (place 1 []) ∷ copy (place 2 []) ∷ copy (place 3 []) ∷ copy (place 7 []) ∷ []) 5 6))) f τ
      (v₁ ∷ v₂ ∷ v₃ ∷ v₄ ∷ [])
  at_rrro {n} {m} {p} {os} {ks} {f} {τ} {τ₀} {τ₁} {τ₂} {τ₃} {τ₄} {τₐ} {τₜ} {ν} {τs} {h₀} {h₁} {h₂} {h₃} {h₄} {hₐ} {hₜ} {m₄} {v₁} {v₂} {v₃} {v₄} g₁ g₂
      g₃ g₄ fits = record {
        runs = λ Pre Q Left Post asks gives ends. let 𝓣 = tables 𝓤 𝓛.H 𝓜 𝓡 𝓡.env in
            qed 𝓛 (raw Pre ∷ []) ∵ enter ! 𝓣.C 𝓣.Λ (fn_of n m p os ks
            (local τ₀ h₀ ∷ local τ₁ h₁ ∷ local τ₂ h₂ ∷ local τ₃ h₃ ∷ local τ₄ h₄ ∷ local τₐ hₐ ∷ local (ty_struct ν (tcons τₜ τs)) hₜ ∷ local τ₄ m₄ ∷
            []) (moved 7 4 (body_of f (copy (place 1 []) ∷ copy (place 2 []) ∷ copy (place 3 []) ∷ copy (place 7 []) ∷ []) 5 6)))
            (v₁ ∷ v₂ ∷ v₃ ∷ v₄ ∷ []) Post $ alloc_all ! (λ l. pass_all ! refl (g₁, (g₂, (g₃, (g₄, tt)))) $ sets ! (of_opd ! (get ! refl)) refl g₄ $
            calls_from ! (framed 𝓤 𝓛.H 𝓜 𝓣) (raw Pre) (v₁ ∷ v₂ ∷ v₃ ∷ v₄ ∷ []) Q asks
            (and_then ! (get ! refl) (and_then ! (get ! refl) (and_then ! (get ! refl) (and_then ! (get ! refl) (no_more !))))) (λ v.
            use1 𝓛 (later (some (λ (w : Val). raw (fact 𝓤 (Good τ w × (v ≡ held w))) ⊛ raw (Left w)))) (gives v) $ await ! tt $ pick !
            (λ w. split ! $ heard ! _ (λ is.
            lands_as ! is.1 refl (fits w is.0).2 $ sets ! (of_opd ! (get_in ! (fld ! refl (stop !)) (sub ! 0 refl (whole !)))) refl (fits w is.0).1 $ sets
            ! (of_opd ! (get ! refl)) refl (fits w is.0).0 $
            returns ! (look_at ! 0 refl) $ free_all ! refl $ by ! (ends w is.0)))));
      }

  pub walk_rrro : {n m p : ℕ} {os : List (ℕ × ℕ)} {ks : List Kind} {f : Callee} {τ τ₀ τ₁ τ₂ τ₃ τ₄ τₐ τₜ : Ty} {ν : Sym} {τs : Tys} {h₀ h₁ h₂ h₃ h₄ hₐ
      hₜ m₄ : Home} {u₁ u₂ u₃ u₄ : List Val} → One τ₁ u₁ → One τ₂ u₂ → One τ₃ u₃ → One τ₄ u₄ → Fits τ τ₀ τₐ (ty_struct ν (tcons τₜ τs))
      → Walk (fn_of n m p os ks (local τ₀ h₀ ∷ local τ₁ h₁ ∷ local τ₂ h₂ ∷ local τ₃ h₃ ∷ local τ₄ h₄ ∷ local τₐ hₐ ∷ local (ty_struct ν (tcons τₜ τs))
      hₜ ∷ local τ₄ m₄ ∷ []) (moved 7 4 (body_of f (copy (place 1 []) ∷ copy (place 2 []) ∷ copy (place 3 []) ∷ copy (place 7 []) ∷ []) 5 6))) f τ
      (u₁ ++ (u₂ ++ (u₃ ++ (u₄ ++ []))))
  walk_rrro {n} {m} {p} {os} {ks} {f} {τ} {τ₀} {τ₁} {τ₂} {τ₃} {τ₄} {τₐ} {τₜ} {ν} {τs} {h₀} {h₁} {h₂} {h₃} {h₄} {hₐ} {hₜ} {m₄} {u₁} {u₂} {u₃} {u₄} o₁
      o₂ o₃ o₄ fits = subst (Walk (fn_of n m p os ks
      (local τ₀ h₀ ∷ local τ₁ h₁ ∷ local τ₂ h₂ ∷ local τ₃ h₃ ∷ local τ₄ h₄ ∷ local τₐ hₐ ∷ local (ty_struct ν (tcons τₜ τs)) hₜ ∷ local τ₄ m₄ ∷ [])
      (moved 7 4 (body_of f (copy (place 1 []) ∷ copy (place 2 []) ∷ copy (place 3 []) ∷ copy (place 7 []) ∷ []) 5 6))) f τ)
      (sym (λ i. o₁.is i ++ (o₂.is i ++ (o₃.is i ++ (o₄.is i ++ []))))) (at_rrro o₁.good o₂.good o₃.good o₄.good fits)

  at_rroo : {n m p : ℕ} {os : List (ℕ × ℕ)} {ks : List Kind} {f : Callee} {τ τ₀ τ₁ τ₂ τ₃ τ₄ τₐ τₜ : Ty} {ν : Sym} {τs : Tys} {h₀ h₁ h₂ h₃ h₄ hₐ hₜ m₃
      m₄ : Home} {v₁ v₂ v₃ v₄ : Val} → Good τ₁ v₁ → Good τ₂ v₂ → Good τ₃ v₃ → Good τ₄ v₄ → Fits τ τ₀ τₐ (ty_struct ν (tcons τₜ τs))
      → Walk (fn_of n m p os ks (local τ₀ h₀ ∷ local τ₁ h₁ ∷ local τ₂ h₂ ∷ local τ₃ h₃ ∷ local τ₄ h₄ ∷ local τₐ hₐ ∷ local (ty_struct ν (tcons τₜ τs))
      hₜ ∷ local τ₃ m₃ ∷ local τ₄ m₄ ∷ []) (moved 7 3
      (moved 8 4 (body_of f (copy (place 1 []) ∷ copy (place 2 []) ∷ copy (place 7 []) ∷ copy (place 8 []) ∷ []) 5 6)))) f τ (v₁ ∷ v₂ ∷ v₃ ∷ v₄ ∷ [])
  at_rroo {n} {m} {p} {os} {ks} {f} {τ} {τ₀} {τ₁} {τ₂} {τ₃} {τ₄} {τₐ} {τₜ} {ν} {τs} {h₀} {h₁} {h₂} {h₃} {h₄} {hₐ} {hₜ} {m₃} {m₄} {v₁} {v₂} {v₃} {v₄}
      g₁ g₂ g₃ g₄ fits = record {
        runs = λ Pre Q Left Post asks gives ends. let 𝓣 = tables 𝓤 𝓛.H 𝓜 𝓡 𝓡.env in
            qed 𝓛 (raw Pre ∷ []) ∵ enter ! 𝓣.C 𝓣.Λ (fn_of n m p os ks
            (local τ₀ h₀ ∷ local τ₁ h₁ ∷ local τ₂ h₂ ∷ local τ₃ h₃ ∷ local τ₄ h₄ ∷ local τₐ hₐ ∷ local (ty_struct ν (tcons τₜ τs)) hₜ ∷ local τ₃ m₃ ∷
            local τ₄ m₄ ∷ []) (moved 7 3 (moved 8 4 (body_of f (copy (place 1 []) ∷ copy (place 2 []) ∷ copy (place 7 []) ∷ copy (place 8 []) ∷ []) 5
            6)))) (v₁ ∷ v₂ ∷ v₃ ∷ v₄ ∷ []) Post $ alloc_all !
            (λ l. pass_all ! refl (g₁, (g₂, (g₃, (g₄, tt)))) $ sets ! (of_opd ! (get ! refl)) refl g₃ $ sets ! (of_opd ! (get ! refl)) refl g₄ $
            calls_from ! (framed 𝓤 𝓛.H 𝓜 𝓣) (raw Pre) (v₁ ∷ v₂ ∷ v₃ ∷ v₄ ∷ []) Q asks
            (and_then ! (get ! refl) (and_then ! (get ! refl) (and_then ! (get ! refl) (and_then ! (get ! refl) (no_more !))))) (λ v.
            use1 𝓛 (later (some (λ (w : Val). raw (fact 𝓤 (Good τ w × (v ≡ held w))) ⊛ raw (Left w)))) (gives v) $ await ! tt $ pick !
            (λ w. split ! $ heard ! _ (λ is.
            lands_as ! is.1 refl (fits w is.0).2 $ sets ! (of_opd ! (get_in ! (fld ! refl (stop !)) (sub ! 0 refl (whole !)))) refl (fits w is.0).1 $ sets
            ! (of_opd ! (get ! refl)) refl (fits w is.0).0 $
            returns ! (look_at ! 0 refl) $ free_all ! refl $ by ! (ends w is.0)))));
      }

  pub walk_rroo : {n m p : ℕ} {os : List (ℕ × ℕ)} {ks : List Kind} {f : Callee} {τ τ₀ τ₁ τ₂ τ₃ τ₄ τₐ τₜ : Ty} {ν : Sym} {τs : Tys} {h₀ h₁ h₂ h₃ h₄ hₐ
      hₜ m₃ m₄ : Home} {u₁ u₂ u₃ u₄ : List Val} → One τ₁ u₁ → One τ₂ u₂ → One τ₃ u₃ → One τ₄ u₄ → Fits τ τ₀ τₐ (ty_struct ν (tcons τₜ τs))
      → Walk (fn_of n m p os ks (local τ₀ h₀ ∷ local τ₁ h₁ ∷ local τ₂ h₂ ∷ local τ₃ h₃ ∷ local τ₄ h₄ ∷ local τₐ hₐ ∷ local (ty_struct ν (tcons τₜ τs))
      hₜ ∷ local τ₃ m₃ ∷ local τ₄ m₄ ∷ []) (moved 7 3
      (moved 8 4 (body_of f (copy (place 1 []) ∷ copy (place 2 []) ∷ copy (place 7 []) ∷ copy (place 8 []) ∷ []) 5 6)))) f τ
      (u₁ ++ (u₂ ++ (u₃ ++ (u₄ ++ []))))
  walk_rroo {n} {m} {p} {os} {ks} {f} {τ} {τ₀} {τ₁} {τ₂} {τ₃} {τ₄} {τₐ} {τₜ} {ν} {τs} {h₀} {h₁} {h₂} {h₃} {h₄} {hₐ} {hₜ} {m₃} {m₄} {u₁} {u₂} {u₃} {u₄}
      o₁ o₂ o₃ o₄ fits = subst (Walk (fn_of n m p os ks
      (local τ₀ h₀ ∷ local τ₁ h₁ ∷ local τ₂ h₂ ∷ local τ₃ h₃ ∷ local τ₄ h₄ ∷ local τₐ hₐ ∷ local (ty_struct ν (tcons τₜ τs)) hₜ ∷ local τ₃ m₃ ∷ local τ₄
      m₄ ∷ []) (moved 7 3 (moved 8 4 (body_of f (copy (place 1 []) ∷ copy (place 2 []) ∷ copy (place 7 []) ∷ copy (place 8 []) ∷ []) 5 6)))) f τ)
      (sym (λ i. o₁.is i ++ (o₂.is i ++ (o₃.is i ++ (o₄.is i ++ []))))) (at_rroo o₁.good o₂.good o₃.good o₄.good fits)

  at_rrooo : {n m p : ℕ} {os : List (ℕ × ℕ)} {ks : List Kind} {f : Callee} {τ τ₀ τ₁ τ₂ τ₃ τ₄ τ₅ τₐ τₜ : Ty} {ν : Sym} {τs : Tys} {h₀ h₁ h₂ h₃ h₄ h₅ hₐ
      hₜ m₃ m₄ m₅ : Home} {v₁ v₂ v₃ v₄ v₅ : Val} → Good τ₁ v₁ → Good τ₂ v₂ → Good τ₃ v₃ → Good τ₄ v₄ → Good τ₅ v₅ → Fits τ τ₀ τₐ (ty_struct ν (tcons τₜ τs))
      → Walk (fn_of n m p os ks (local τ₀ h₀ ∷ local τ₁ h₁ ∷ local τ₂ h₂ ∷ local τ₃ h₃ ∷ local τ₄ h₄ ∷ local τ₅ h₅ ∷ local τₐ hₐ ∷ local
      (ty_struct ν (tcons τₜ τs)) hₜ ∷ local τ₃ m₃ ∷ local τ₄ m₄ ∷ local τ₅ m₅ ∷ [])
      (moved 8 3 (moved 9 4 (moved 10 5 (body_of f
      (copy (place 1 []) ∷ copy (place 2 []) ∷ copy (place 8 []) ∷ copy (place 9 []) ∷ copy (place 10 []) ∷ []) 6 7))))) f τ (v₁ ∷ v₂ ∷ v₃ ∷ v₄ ∷ v₅ ∷ [])
  at_rrooo {n} {m} {p} {os} {ks} {f} {τ} {τ₀} {τ₁} {τ₂} {τ₃} {τ₄} {τ₅} {τₐ} {τₜ} {ν} {τs} {h₀} {h₁} {h₂} {h₃} {h₄} {h₅} {hₐ} {hₜ} {m₃} {m₄} {m₅} {v₁} {v₂} {v₃} {v₄} {v₅} g₁ g₂ g₃ g₄ g₅ fits = record {
    runs = λ Pre Q Left Post asks gives ends. let 𝓣 = tables 𝓤 𝓛.H 𝓜 𝓡 𝓡.env in
        qed 𝓛 (raw Pre ∷ []) ∵ enter ! 𝓣.C 𝓣.Λ (fn_of n m p os ks
        (local τ₀ h₀ ∷ local τ₁ h₁ ∷ local τ₂ h₂ ∷ local τ₃ h₃ ∷ local τ₄ h₄ ∷ local τ₅ h₅ ∷ local τₐ hₐ ∷ local (ty_struct ν (tcons τₜ τs)) hₜ ∷
        local τ₃ m₃ ∷ local τ₄ m₄ ∷ local τ₅ m₅ ∷ [])
        (moved 8 3 (moved 9 4 (moved 10 5 (body_of f
        (copy (place 1 []) ∷ copy (place 2 []) ∷ copy (place 8 []) ∷ copy (place 9 []) ∷ copy (place 10 []) ∷ []) 6 7)))))
        (v₁ ∷ v₂ ∷ v₃ ∷ v₄ ∷ v₅ ∷ []) Post $ alloc_all !
        (λ l. pass_all ! refl (g₁, (g₂, (g₃, (g₄, (g₅, tt))))) $ sets ! (of_opd ! (get ! refl)) refl g₃ $ sets ! (of_opd ! (get ! refl)) refl g₄ $
        sets ! (of_opd ! (get ! refl)) refl g₅ $
        calls_from ! (framed 𝓤 𝓛.H 𝓜 𝓣) (raw Pre) (v₁ ∷ v₂ ∷ v₃ ∷ v₄ ∷ v₅ ∷ []) Q asks
        (and_then ! (get ! refl) (and_then ! (get ! refl) (and_then ! (get ! refl) (and_then ! (get ! refl) (and_then ! (get ! refl) (no_more !)))))) (λ v.
        use1 𝓛 (later (some (λ (w : Val). raw (fact 𝓤 (Good τ w × (v ≡ held w))) ⊛ raw (Left w)))) (gives v) $ await ! tt $ pick !
        (λ w. split ! $ heard ! _ (λ is.
        lands_as ! is.1 refl (fits w is.0).2 $ sets ! (of_opd ! (get_in ! (fld ! refl (stop !)) (sub ! 0 refl (whole !)))) refl (fits w is.0).1 $ sets
        ! (of_opd ! (get ! refl)) refl (fits w is.0).0 $
        returns ! (look_at ! 0 refl) $ free_all ! refl $ by ! (ends w is.0)))));
  }

  pub walk_rrooo : {n m p : ℕ} {os : List (ℕ × ℕ)} {ks : List Kind} {f : Callee} {τ τ₀ τ₁ τ₂ τ₃ τ₄ τ₅ τₐ τₜ : Ty} {ν : Sym} {τs : Tys} {h₀ h₁ h₂ h₃ h₄
      h₅ hₐ hₜ m₃ m₄ m₅ : Home} {u₁ u₂ u₃ u₄ u₅ : List Val} → One τ₁ u₁ → One τ₂ u₂ → One τ₃ u₃ → One τ₄ u₄ → One τ₅ u₅ → Fits τ τ₀ τₐ (ty_struct ν (tcons τₜ τs))
      → Walk (fn_of n m p os ks (local τ₀ h₀ ∷ local τ₁ h₁ ∷ local τ₂ h₂ ∷ local τ₃ h₃ ∷ local τ₄ h₄ ∷ local τ₅ h₅ ∷ local τₐ hₐ ∷ local
      (ty_struct ν (tcons τₜ τs)) hₜ ∷ local τ₃ m₃ ∷ local τ₄ m₄ ∷ local τ₅ m₅ ∷ [])
      (moved 8 3 (moved 9 4 (moved 10 5 (body_of f
      (copy (place 1 []) ∷ copy (place 2 []) ∷ copy (place 8 []) ∷ copy (place 9 []) ∷ copy (place 10 []) ∷ []) 6 7))))) f τ
      (u₁ ++ (u₂ ++ (u₃ ++ (u₄ ++ (u₅ ++ [])))))
  walk_rrooo {n} {m} {p} {os} {ks} {f} {τ} {τ₀} {τ₁} {τ₂} {τ₃} {τ₄} {τ₅} {τₐ} {τₜ} {ν} {τs} {h₀} {h₁} {h₂} {h₃} {h₄} {h₅} {hₐ} {hₜ} {m₃} {m₄} {m₅} {u₁} {u₂} {u₃} {u₄} {u₅} o₁ o₂ o₃ o₄ o₅ fits = subst (Walk (fn_of n m p os ks (local τ₀ h₀ ∷ local τ₁ h₁ ∷ local τ₂ h₂ ∷ local τ₃ h₃ ∷ local τ₄ h₄ ∷ local τ₅ h₅ ∷ local τₐ hₐ ∷ local (ty_struct ν (tcons τₜ τs)) hₜ ∷ local τ₃ m₃ ∷ local τ₄ m₄ ∷ local τ₅ m₅ ∷ []) (moved 8 3 (moved 9 4 (moved 10 5 (body_of f (copy (place 1 []) ∷ copy (place 2 []) ∷ copy (place 8 []) ∷ copy (place 9 []) ∷ copy (place 10 []) ∷ []) 6 7))))) f τ) (sym (λ i. o₁.is i ++ (o₂.is i ++ (o₃.is i ++ (o₄.is i ++ (o₅.is i ++ [])))))) (at_rrooo o₁.good o₂.good o₃.good o₄.good o₅.good fits)

  at_rrrr : {n m p : ℕ} {os : List (ℕ × ℕ)} {ks : List Kind} {f : Callee} {τ τ₀ τ₁ τ₂ τ₃ τ₄ τₐ τₜ : Ty} {ν : Sym} {τs : Tys} {h₀ h₁ h₂ h₃ h₄ hₐ hₜ :
      Home} {v₁ v₂ v₃ v₄ : Val} → Good τ₁ v₁ → Good τ₂ v₂ → Good τ₃ v₃ → Good τ₄ v₄ → Fits τ τ₀ τₐ (ty_struct ν (tcons τₜ τs))
      → Walk (fn_of n m p os ks (local τ₀ h₀ ∷ local τ₁ h₁ ∷ local τ₂ h₂ ∷ local τ₃ h₃ ∷ local τ₄ h₄ ∷ local τₐ hₐ ∷ local (ty_struct ν (tcons τₜ τs))
      hₜ ∷ []) (body_of f (copy (place 1 []) ∷ copy (place 2 []) ∷ copy (place 3 []) ∷ copy (place 4 []) ∷ []) 5 6)) f τ (v₁ ∷ v₂ ∷ v₃ ∷ v₄ ∷ [])
  at_rrrr {n} {m} {p} {os} {ks} {f} {τ} {τ₀} {τ₁} {τ₂} {τ₃} {τ₄} {τₐ} {τₜ} {ν} {τs} {h₀} {h₁} {h₂} {h₃} {h₄} {hₐ} {hₜ} {v₁} {v₂} {v₃} {v₄} g₁ g₂ g₃ g₄
      fits = record {
        runs = λ Pre Q Left Post asks gives ends. let 𝓣 = tables 𝓤 𝓛.H 𝓜 𝓡 𝓡.env in
            qed 𝓛 (raw Pre ∷ []) ∵ enter ! 𝓣.C 𝓣.Λ (fn_of n m p os ks
            (local τ₀ h₀ ∷ local τ₁ h₁ ∷ local τ₂ h₂ ∷ local τ₃ h₃ ∷ local τ₄ h₄ ∷ local τₐ hₐ ∷ local (ty_struct ν (tcons τₜ τs)) hₜ ∷ [])
            (body_of f (copy (place 1 []) ∷ copy (place 2 []) ∷ copy (place 3 []) ∷ copy (place 4 []) ∷ []) 5 6)) (v₁ ∷ v₂ ∷ v₃ ∷ v₄ ∷ []) Post $
            alloc_all ! (λ l. pass_all ! refl (g₁, (g₂, (g₃, (g₄, tt)))) $
            calls_from ! (framed 𝓤 𝓛.H 𝓜 𝓣) (raw Pre) (v₁ ∷ v₂ ∷ v₃ ∷ v₄ ∷ []) Q asks
            (and_then ! (get ! refl) (and_then ! (get ! refl) (and_then ! (get ! refl) (and_then ! (get ! refl) (no_more !))))) (λ v.
            use1 𝓛 (later (some (λ (w : Val). raw (fact 𝓤 (Good τ w × (v ≡ held w))) ⊛ raw (Left w)))) (gives v) $ await ! tt $ pick !
            (λ w. split ! $ heard ! _ (λ is.
            lands_as ! is.1 refl (fits w is.0).2 $ sets ! (of_opd ! (get_in ! (fld ! refl (stop !)) (sub ! 0 refl (whole !)))) refl (fits w is.0).1 $ sets
            ! (of_opd ! (get ! refl)) refl (fits w is.0).0 $
            returns ! (look_at ! 0 refl) $ free_all ! refl $ by ! (ends w is.0)))));
      }

  pub walk_rrrr : {n m p : ℕ} {os : List (ℕ × ℕ)} {ks : List Kind} {f : Callee} {τ τ₀ τ₁ τ₂ τ₃ τ₄ τₐ τₜ : Ty} {ν : Sym} {τs : Tys} {h₀ h₁ h₂ h₃ h₄ hₐ
      hₜ : Home} {u₁ u₂ u₃ u₄ : List Val} → One τ₁ u₁ → One τ₂ u₂ → One τ₃ u₃ → One τ₄ u₄ → Fits τ τ₀ τₐ (ty_struct ν (tcons τₜ τs))
      → Walk (fn_of n m p os ks (local τ₀ h₀ ∷ local τ₁ h₁ ∷ local τ₂ h₂ ∷ local τ₃ h₃ ∷ local τ₄ h₄ ∷ local τₐ hₐ ∷ local (ty_struct ν (tcons τₜ τs))
      hₜ ∷ []) (body_of f (copy (place 1 []) ∷ copy (place 2 []) ∷ copy (place 3 []) ∷ copy (place 4 []) ∷ []) 5 6)) f τ (u₁ ++ (u₂ ++ (u₃ ++ (u₄ ++ []))))
  walk_rrrr {n} {m} {p} {os} {ks} {f} {τ} {τ₀} {τ₁} {τ₂} {τ₃} {τ₄} {τₐ} {τₜ} {ν} {τs} {h₀} {h₁} {h₂} {h₃} {h₄} {hₐ} {hₜ} {u₁} {u₂} {u₃} {u₄} o₁ o₂ o₃
      o₄ fits = subst (Walk (fn_of n m p os ks
      (local τ₀ h₀ ∷ local τ₁ h₁ ∷ local τ₂ h₂ ∷ local τ₃ h₃ ∷ local τ₄ h₄ ∷ local τₐ hₐ ∷ local (ty_struct ν (tcons τₜ τs)) hₜ ∷ [])
      (body_of f (copy (place 1 []) ∷ copy (place 2 []) ∷ copy (place 3 []) ∷ copy (place 4 []) ∷ []) 5 6)) f τ)
      (sym (λ i. o₁.is i ++ (o₂.is i ++ (o₃.is i ++ (o₄.is i ++ []))))) (at_rrrr o₁.good o₂.good o₃.good o₄.good fits)

  at_rrror : {n m p : ℕ} {os : List (ℕ × ℕ)} {ks : List Kind} {f : Callee} {τ τ₀ τ₁ τ₂ τ₃ τ₄ τ₅ τₐ τₜ : Ty} {ν : Sym} {τs : Tys} {h₀ h₁ h₂ h₃ h₄ h₅ hₐ
      hₜ m₄ : Home} {v₁ v₂ v₃ v₄ v₅ : Val} → Good τ₁ v₁ → Good τ₂ v₂ → Good τ₃ v₃ → Good τ₄ v₄ → Good τ₅ v₅ → Fits τ τ₀ τₐ (ty_struct ν (tcons τₜ τs))
      → Walk (fn_of n m p os ks (local τ₀ h₀ ∷ local τ₁ h₁ ∷ local τ₂ h₂ ∷ local τ₃ h₃ ∷ local τ₄ h₄ ∷ local τ₅ h₅ ∷ local τₐ hₐ ∷ local
      (ty_struct ν (tcons τₜ τs)) hₜ ∷ local τ₄ m₄ ∷ [])
      (moved 8 4 (body_of f (copy (place 1 []) ∷ copy (place 2 []) ∷ copy (place 3 []) ∷ copy (place 8 []) ∷ copy (place 5 []) ∷ []) 6 7))) f τ
      (v₁ ∷ v₂ ∷ v₃ ∷ v₄ ∷ v₅ ∷ [])
  at_rrror {n} {m} {p} {os} {ks} {f} {τ} {τ₀} {τ₁} {τ₂} {τ₃} {τ₄} {τ₅} {τₐ} {τₜ} {ν} {τs} {h₀} {h₁} {h₂} {h₃} {h₄} {h₅} {hₐ} {hₜ} {m₄} {v₁} {v₂} {v₃} {v₄} {v₅} g₁ g₂ g₃ g₄ g₅ fits = record {
    runs = λ Pre Q Left Post asks gives ends. let 𝓣 = tables 𝓤 𝓛.H 𝓜 𝓡 𝓡.env in
        qed 𝓛 (raw Pre ∷ []) ∵ enter ! 𝓣.C 𝓣.Λ (fn_of n m p os ks
        (local τ₀ h₀ ∷ local τ₁ h₁ ∷ local τ₂ h₂ ∷ local τ₃ h₃ ∷ local τ₄ h₄ ∷ local τ₅ h₅ ∷ local τₐ hₐ ∷ local (ty_struct ν (tcons τₜ τs)) hₜ ∷
        local τ₄ m₄ ∷ []) (moved 8 4 (body_of f (copy (place 1 []) ∷ copy (place 2 []) ∷ copy (place 3 []) ∷ copy (place 8 []) ∷ copy (place 5 []) ∷
        []) 6 7))) (v₁ ∷ v₂ ∷ v₃ ∷ v₄ ∷ v₅ ∷ []) Post $ alloc_all !
        (λ l. pass_all ! refl (g₁, (g₂, (g₃, (g₄, (g₅, tt))))) $ sets ! (of_opd ! (get ! refl)) refl g₄ $
        calls_from ! (framed 𝓤 𝓛.H 𝓜 𝓣) (raw Pre) (v₁ ∷ v₂ ∷ v₃ ∷ v₄ ∷ v₅ ∷ []) Q asks
        (and_then ! (get ! refl) (and_then ! (get ! refl) (and_then ! (get ! refl) (and_then ! (get ! refl) (and_then ! (get ! refl) (no_more !)))))) (λ v.
        use1 𝓛 (later (some (λ (w : Val). raw (fact 𝓤 (Good τ w × (v ≡ held w))) ⊛ raw (Left w)))) (gives v) $ await ! tt $ pick !
        (λ w. split ! $ heard ! _ (λ is.
        lands_as ! is.1 refl (fits w is.0).2 $ sets ! (of_opd ! (get_in ! (fld ! refl (stop !)) (sub ! 0 refl (whole !)))) refl (fits w is.0).1 $ sets
        ! (of_opd ! (get ! refl)) refl (fits w is.0).0 $
        returns ! (look_at ! 0 refl) $ free_all ! refl $ by ! (ends w is.0)))));
  }

  pub walk_rrror : {n m p : ℕ} {os : List (ℕ × ℕ)} {ks : List Kind} {f : Callee} {τ τ₀ τ₁ τ₂ τ₃ τ₄ τ₅ τₐ τₜ : Ty} {ν : Sym} {τs : Tys} {h₀ h₁ h₂ h₃ h₄
      h₅ hₐ hₜ m₄ : Home} {u₁ u₂ u₃ u₄ u₅ : List Val} → One τ₁ u₁ → One τ₂ u₂ → One τ₃ u₃ → One τ₄ u₄ → One τ₅ u₅ → Fits τ τ₀ τₐ (ty_struct ν (tcons τₜ τs))
      → Walk (fn_of n m p os ks (local τ₀ h₀ ∷ local τ₁ h₁ ∷ local τ₂ h₂ ∷ local τ₃ h₃ ∷ local τ₄ h₄ ∷ local τ₅ h₅ ∷ local τₐ hₐ ∷ local
      (ty_struct ν (tcons τₜ τs)) hₜ ∷ local τ₄ m₄ ∷ [])
      (moved 8 4 (body_of f (copy (place 1 []) ∷ copy (place 2 []) ∷ copy (place 3 []) ∷ copy (place 8 []) ∷ copy (place 5 []) ∷ []) 6 7))) f τ
      (u₁ ++ (u₂ ++ (u₃ ++ (u₄ ++ (u₅ ++ [])))))
  walk_rrror {n} {m} {p} {os} {ks} {f} {τ} {τ₀} {τ₁} {τ₂} {τ₃} {τ₄} {τ₅} {τₐ} {τₜ} {ν} {τs} {h₀} {h₁} {h₂} {h₃} {h₄} {h₅} {hₐ} {hₜ} {m₄} {u₁} {u₂} {u₃} {u₄} {u₅} o₁ o₂ o₃ o₄ o₅ fits = subst (Walk (fn_of n m p os ks (local τ₀ h₀ ∷ local τ₁ h₁ ∷ local τ₂ h₂ ∷ local τ₃ h₃ ∷ local τ₄ h₄ ∷ local τ₅ h₅ ∷ local τₐ hₐ ∷ local (ty_struct ν (tcons τₜ τs)) hₜ ∷ local τ₄ m₄ ∷ []) (moved 8 4 (body_of f (copy (place 1 []) ∷ copy (place 2 []) ∷ copy (place 3 []) ∷ copy (place 8 []) ∷ copy (place 5 []) ∷ []) 6 7))) f τ) (sym (λ i. o₁.is i ++ (o₂.is i ++ (o₃.is i ++ (o₄.is i ++ (o₅.is i ++ [])))))) (at_rrror o₁.good o₂.good o₃.good o₄.good o₅.good fits)

  at_rroor : {n m p : ℕ} {os : List (ℕ × ℕ)} {ks : List Kind} {f : Callee} {τ τ₀ τ₁ τ₂ τ₃ τ₄ τ₅ τₐ τₜ : Ty} {ν : Sym} {τs : Tys} {h₀ h₁ h₂ h₃ h₄ h₅ hₐ
      hₜ m₃ m₄ : Home} {v₁ v₂ v₃ v₄ v₅ : Val} → Good τ₁ v₁ → Good τ₂ v₂ → Good τ₃ v₃ → Good τ₄ v₄ → Good τ₅ v₅ → Fits τ τ₀ τₐ (ty_struct ν (tcons τₜ τs))
      → Walk (fn_of n m p os ks (local τ₀ h₀ ∷ local τ₁ h₁ ∷ local τ₂ h₂ ∷ local τ₃ h₃ ∷ local τ₄ h₄ ∷ local τ₅ h₅ ∷ local τₐ hₐ ∷ local
      (ty_struct ν (tcons τₜ τs)) hₜ ∷ local τ₃ m₃ ∷ local τ₄ m₄ ∷ [])
      (moved 8 3 (moved 9 4 (body_of f (copy (place 1 []) ∷ copy (place 2 []) ∷ copy (place 8 []) ∷ copy (place 9 []) ∷ copy (place 5 []) ∷ []) 6
      7)))) f τ (v₁ ∷ v₂ ∷ v₃ ∷ v₄ ∷ v₅ ∷ [])
  at_rroor {n} {m} {p} {os} {ks} {f} {τ} {τ₀} {τ₁} {τ₂} {τ₃} {τ₄} {τ₅} {τₐ} {τₜ} {ν} {τs} {h₀} {h₁} {h₂} {h₃} {h₄} {h₅} {hₐ} {hₜ} {m₃} {m₄} {v₁} {v₂} {v₃} {v₄} {v₅} g₁ g₂ g₃ g₄ g₅ fits = record {
    runs = λ Pre Q Left Post asks gives ends. let 𝓣 = tables 𝓤 𝓛.H 𝓜 𝓡 𝓡.env in
        qed 𝓛 (raw Pre ∷ []) ∵ enter ! 𝓣.C 𝓣.Λ (fn_of n m p os ks
        (local τ₀ h₀ ∷ local τ₁ h₁ ∷ local τ₂ h₂ ∷ local τ₃ h₃ ∷ local τ₄ h₄ ∷ local τ₅ h₅ ∷ local τₐ hₐ ∷ local (ty_struct ν (tcons τₜ τs)) hₜ ∷
        local τ₃ m₃ ∷ local τ₄ m₄ ∷ []) (moved 8 3
        (moved 9 4 (body_of f (copy (place 1 []) ∷ copy (place 2 []) ∷ copy (place 8 []) ∷ copy (place 9 []) ∷ copy (place 5 []) ∷ []) 6 7))))
        (v₁ ∷ v₂ ∷ v₃ ∷ v₄ ∷ v₅ ∷ []) Post $ alloc_all !
        (λ l. pass_all ! refl (g₁, (g₂, (g₃, (g₄, (g₅, tt))))) $ sets ! (of_opd ! (get ! refl)) refl g₃ $ sets ! (of_opd ! (get ! refl)) refl g₄ $
        calls_from ! (framed 𝓤 𝓛.H 𝓜 𝓣) (raw Pre) (v₁ ∷ v₂ ∷ v₃ ∷ v₄ ∷ v₅ ∷ []) Q asks
        (and_then ! (get ! refl) (and_then ! (get ! refl) (and_then ! (get ! refl) (and_then ! (get ! refl) (and_then ! (get ! refl) (no_more !)))))) (λ v.
        use1 𝓛 (later (some (λ (w : Val). raw (fact 𝓤 (Good τ w × (v ≡ held w))) ⊛ raw (Left w)))) (gives v) $ await ! tt $ pick !
        (λ w. split ! $ heard ! _ (λ is.
        lands_as ! is.1 refl (fits w is.0).2 $ sets ! (of_opd ! (get_in ! (fld ! refl (stop !)) (sub ! 0 refl (whole !)))) refl (fits w is.0).1 $ sets
        ! (of_opd ! (get ! refl)) refl (fits w is.0).0 $
        returns ! (look_at ! 0 refl) $ free_all ! refl $ by ! (ends w is.0)))));
  }

  pub walk_rroor : {n m p : ℕ} {os : List (ℕ × ℕ)} {ks : List Kind} {f : Callee} {τ τ₀ τ₁ τ₂ τ₃ τ₄ τ₅ τₐ τₜ : Ty} {ν : Sym} {τs : Tys} {h₀ h₁ h₂ h₃ h₄
      h₅ hₐ hₜ m₃ m₄ : Home} {u₁ u₂ u₃ u₄ u₅ : List Val} → One τ₁ u₁ → One τ₂ u₂ → One τ₃ u₃ → One τ₄ u₄ → One τ₅ u₅ → Fits τ τ₀ τₐ (ty_struct ν (tcons τₜ τs))
      → Walk (fn_of n m p os ks (local τ₀ h₀ ∷ local τ₁ h₁ ∷ local τ₂ h₂ ∷ local τ₃ h₃ ∷ local τ₄ h₄ ∷ local τ₅ h₅ ∷ local τₐ hₐ ∷ local
      (ty_struct ν (tcons τₜ τs)) hₜ ∷ local τ₃ m₃ ∷ local τ₄ m₄ ∷ [])
      (moved 8 3 (moved 9 4 (body_of f (copy (place 1 []) ∷ copy (place 2 []) ∷ copy (place 8 []) ∷ copy (place 9 []) ∷ copy (place 5 []) ∷ []) 6
      7)))) f τ (u₁ ++ (u₂ ++ (u₃ ++ (u₄ ++ (u₅ ++ [])))))
  walk_rroor {n} {m} {p} {os} {ks} {f} {τ} {τ₀} {τ₁} {τ₂} {τ₃} {τ₄} {τ₅} {τₐ} {τₜ} {ν} {τs} {h₀} {h₁} {h₂} {h₃} {h₄} {h₅} {hₐ} {hₜ} {m₃} {m₄} {u₁} {u₂} {u₃} {u₄} {u₅} o₁ o₂ o₃ o₄ o₅ fits = subst (Walk (fn_of n m p os ks (local τ₀ h₀ ∷ local τ₁ h₁ ∷ local τ₂ h₂ ∷ local τ₃ h₃ ∷ local τ₄ h₄ ∷ local τ₅ h₅ ∷ local τₐ hₐ ∷ local (ty_struct ν (tcons τₜ τs)) hₜ ∷ local τ₃ m₃ ∷ local τ₄ m₄ ∷ []) (moved 8 3 (moved 9 4 (body_of f (copy (place 1 []) ∷ copy (place 2 []) ∷ copy (place 8 []) ∷ copy (place 9 []) ∷ copy (place 5 []) ∷ []) 6 7)))) f τ) (sym (λ i. o₁.is i ++ (o₂.is i ++ (o₃.is i ++ (o₄.is i ++ (o₅.is i ++ [])))))) (at_rroor o₁.good o₂.good o₃.good o₄.good o₅.good fits)

  at_rrooor : {n m p : ℕ} {os : List (ℕ × ℕ)} {ks : List Kind} {f : Callee} {τ τ₀ τ₁ τ₂ τ₃ τ₄ τ₅ τ₆ τₐ τₜ : Ty} {ν : Sym} {τs : Tys} {h₀ h₁ h₂ h₃ h₄
      h₅ h₆ hₐ hₜ m₃ m₄ m₅ : Home} {v₁ v₂ v₃ v₄ v₅ v₆ : Val} → Good τ₁ v₁ → Good τ₂ v₂ → Good τ₃ v₃ → Good τ₄ v₄ → Good τ₅ v₅ → Good τ₆ v₆
      → Fits τ τ₀ τₐ (ty_struct ν (tcons τₜ τs))
      → Walk (fn_of n m p os ks (local τ₀ h₀ ∷ local τ₁ h₁ ∷ local τ₂ h₂ ∷ local τ₃ h₃ ∷ local τ₄ h₄ ∷ local τ₅ h₅ ∷ local τ₆ h₆ ∷ local τₐ hₐ ∷ local
      (ty_struct ν (tcons τₜ τs)) hₜ ∷ local τ₃ m₃ ∷ local τ₄ m₄ ∷ local τ₅ m₅ ∷ [])
      (moved 9 3 (moved 10 4 (moved 11 5 (body_of f
      (copy (place 1 []) ∷ copy (place 2 []) ∷ copy (place 9 []) ∷ copy (place 10 []) ∷ copy (place 11 []) ∷ copy (place 6 []) ∷ []) 7 8))))) f τ
      (v₁ ∷ v₂ ∷ v₃ ∷ v₄ ∷ v₅ ∷ v₆ ∷ [])
  at_rrooor {n} {m} {p} {os} {ks} {f} {τ} {τ₀} {τ₁} {τ₂} {τ₃} {τ₄} {τ₅} {τ₆} {τₐ} {τₜ} {ν} {τs} {h₀} {h₁} {h₂} {h₃} {h₄} {h₅} {h₆} {hₐ} {hₜ} {m₃} {m₄} {m₅} {v₁} {v₂} {v₃} {v₄} {v₅} {v₆} g₁ g₂ g₃ g₄ g₅ g₆ fits = record {
    runs = λ Pre Q Left Post asks gives ends. let 𝓣 = tables 𝓤 𝓛.H 𝓜 𝓡 𝓡.env in
        qed 𝓛 (raw Pre ∷ []) ∵ enter ! 𝓣.C 𝓣.Λ (fn_of n m p os ks
        (local τ₀ h₀ ∷ local τ₁ h₁ ∷ local τ₂ h₂ ∷ local τ₃ h₃ ∷ local τ₄ h₄ ∷ local τ₅ h₅ ∷ local τ₆ h₆ ∷ local τₐ hₐ ∷ local
        (ty_struct ν (tcons τₜ τs)) hₜ ∷ local τ₃ m₃ ∷ local τ₄ m₄ ∷ local τ₅ m₅ ∷ [])
        (moved 9 3 (moved 10 4 (moved 11 5 (body_of f
        (copy (place 1 []) ∷ copy (place 2 []) ∷ copy (place 9 []) ∷ copy (place 10 []) ∷ copy (place 11 []) ∷ copy (place 6 []) ∷ []) 7 8)))))
        (v₁ ∷ v₂ ∷ v₃ ∷ v₄ ∷ v₅ ∷ v₆ ∷ []) Post $ alloc_all !
        (λ l. pass_all ! refl (g₁, (g₂, (g₃, (g₄, (g₅, (g₆, tt)))))) $ sets ! (of_opd ! (get ! refl)) refl g₃ $ sets ! (of_opd ! (get ! refl)) refl
        g₄ $ sets ! (of_opd ! (get ! refl)) refl g₅ $
        calls_from ! (framed 𝓤 𝓛.H 𝓜 𝓣) (raw Pre) (v₁ ∷ v₂ ∷ v₃ ∷ v₄ ∷ v₅ ∷ v₆ ∷ []) Q asks
        (and_then ! (get ! refl) (and_then ! (get ! refl)
        (and_then ! (get ! refl) (and_then ! (get ! refl) (and_then ! (get ! refl) (and_then ! (get ! refl) (no_more !))))))) (λ v.
        use1 𝓛 (later (some (λ (w : Val). raw (fact 𝓤 (Good τ w × (v ≡ held w))) ⊛ raw (Left w)))) (gives v) $ await ! tt $ pick !
        (λ w. split ! $ heard ! _ (λ is.
        lands_as ! is.1 refl (fits w is.0).2 $ sets ! (of_opd ! (get_in ! (fld ! refl (stop !)) (sub ! 0 refl (whole !)))) refl (fits w is.0).1 $ sets
        ! (of_opd ! (get ! refl)) refl (fits w is.0).0 $
        returns ! (look_at ! 0 refl) $ free_all ! refl $ by ! (ends w is.0)))));
  }

  pub walk_rrooor : {n m p : ℕ} {os : List (ℕ × ℕ)} {ks : List Kind} {f : Callee} {τ τ₀ τ₁ τ₂ τ₃ τ₄ τ₅ τ₆ τₐ τₜ : Ty} {ν : Sym} {τs : Tys} {h₀ h₁ h₂
      h₃ h₄ h₅ h₆ hₐ hₜ m₃ m₄ m₅ : Home} {u₁ u₂ u₃ u₄ u₅ u₆ : List Val} → One τ₁ u₁ → One τ₂ u₂ → One τ₃ u₃ → One τ₄ u₄ → One τ₅ u₅ → One τ₆ u₆
      → Fits τ τ₀ τₐ (ty_struct ν (tcons τₜ τs))
      → Walk (fn_of n m p os ks (local τ₀ h₀ ∷ local τ₁ h₁ ∷ local τ₂ h₂ ∷ local τ₃ h₃ ∷ local τ₄ h₄ ∷ local τ₅ h₅ ∷ local τ₆ h₆ ∷ local τₐ hₐ ∷ local
      (ty_struct ν (tcons τₜ τs)) hₜ ∷ local τ₃ m₃ ∷ local τ₄ m₄ ∷ local τ₅ m₅ ∷ [])
      (moved 9 3 (moved 10 4 (moved 11 5 (body_of f
      (copy (place 1 []) ∷ copy (place 2 []) ∷ copy (place 9 []) ∷ copy (place 10 []) ∷ copy (place 11 []) ∷ copy (place 6 []) ∷ []) 7 8))))) f τ
      (u₁ ++ (u₂ ++ (u₃ ++ (u₄ ++ (u₅ ++ (u₆ ++ []))))))
  walk_rrooor {n} {m} {p} {os} {ks} {f} {τ} {τ₀} {τ₁} {τ₂} {τ₃} {τ₄} {τ₅} {τ₆} {τₐ} {τₜ} {ν} {τs} {h₀} {h₁} {h₂} {h₃} {h₄} {h₅} {h₆} {hₐ} {hₜ} {m₃} {m₄} {m₅} {u₁} {u₂} {u₃} {u₄} {u₅} {u₆} o₁ o₂ o₃ o₄ o₅ o₆ fits = subst (Walk (fn_of n m p os ks (local τ₀ h₀ ∷ local τ₁ h₁ ∷ local τ₂ h₂ ∷ local τ₃ h₃ ∷ local τ₄ h₄ ∷ local τ₅ h₅ ∷ local τ₆ h₆ ∷ local τₐ hₐ ∷ local (ty_struct ν (tcons τₜ τs)) hₜ ∷ local τ₃ m₃ ∷ local τ₄ m₄ ∷ local τ₅ m₅ ∷ []) (moved 9 3 (moved 10 4 (moved 11 5 (body_of f (copy (place 1 []) ∷ copy (place 2 []) ∷ copy (place 9 []) ∷ copy (place 10 []) ∷ copy (place 11 []) ∷ copy (place 6 []) ∷ []) 7 8))))) f τ) (sym (λ i. o₁.is i ++ (o₂.is i ++ (o₃.is i ++ (o₄.is i ++ (o₅.is i ++ (o₆.is i ++ []))))))) (at_rrooor o₁.good o₂.good o₃.good o₄.good o₅.good o₆.good fits)

  at_rror : {n m p : ℕ} {os : List (ℕ × ℕ)} {ks : List Kind} {f : Callee} {τ τ₀ τ₁ τ₂ τ₃ τ₄ τₐ τₜ : Ty} {ν : Sym} {τs : Tys} {h₀ h₁ h₂ h₃ h₄ hₐ hₜ
      m₃ : Home} {v₁ v₂ v₃ v₄ : Val} → Good τ₁ v₁ → Good τ₂ v₂ → Good τ₃ v₃ → Good τ₄ v₄ → Fits τ τ₀ τₐ (ty_struct ν (tcons τₜ τs))
      → Walk (fn_of n m p os ks (local τ₀ h₀ ∷ local τ₁ h₁ ∷ local τ₂ h₂ ∷ local τ₃ h₃ ∷ local τ₄ h₄ ∷ local τₐ hₐ ∷ local (ty_struct ν (tcons τₜ τs))
      hₜ ∷ local τ₃ m₃ ∷ []) (moved 7 3 (body_of f (copy (place 1 []) ∷ copy (place 2 []) ∷ copy (place 7 []) ∷ copy (place 4 []) ∷ []) 5 6))) f τ
      (v₁ ∷ v₂ ∷ v₃ ∷ v₄ ∷ [])
  at_rror {n} {m} {p} {os} {ks} {f} {τ} {τ₀} {τ₁} {τ₂} {τ₃} {τ₄} {τₐ} {τₜ} {ν} {τs} {h₀} {h₁} {h₂} {h₃} {h₄} {hₐ} {hₜ} {m₃} {v₁} {v₂} {v₃} {v₄} g₁ g₂
      g₃ g₄ fits = record {
        runs = λ Pre Q Left Post asks gives ends. let 𝓣 = tables 𝓤 𝓛.H 𝓜 𝓡 𝓡.env in
            qed 𝓛 (raw Pre ∷ []) ∵ enter ! 𝓣.C 𝓣.Λ (fn_of n m p os ks
            (local τ₀ h₀ ∷ local τ₁ h₁ ∷ local τ₂ h₂ ∷ local τ₃ h₃ ∷ local τ₄ h₄ ∷ local τₐ hₐ ∷ local (ty_struct ν (tcons τₜ τs)) hₜ ∷ local τ₃ m₃ ∷
            []) (moved 7 3 (body_of f (copy (place 1 []) ∷ copy (place 2 []) ∷ copy (place 7 []) ∷ copy (place 4 []) ∷ []) 5 6)))
            (v₁ ∷ v₂ ∷ v₃ ∷ v₄ ∷ []) Post $ alloc_all ! (λ l. pass_all ! refl (g₁, (g₂, (g₃, (g₄, tt)))) $ sets ! (of_opd ! (get ! refl)) refl g₃ $
            calls_from ! (framed 𝓤 𝓛.H 𝓜 𝓣) (raw Pre) (v₁ ∷ v₂ ∷ v₃ ∷ v₄ ∷ []) Q asks
            (and_then ! (get ! refl) (and_then ! (get ! refl) (and_then ! (get ! refl) (and_then ! (get ! refl) (no_more !))))) (λ v.
            use1 𝓛 (later (some (λ (w : Val). raw (fact 𝓤 (Good τ w × (v ≡ held w))) ⊛ raw (Left w)))) (gives v) $ await ! tt $ pick !
            (λ w. split ! $ heard ! _ (λ is.
            lands_as ! is.1 refl (fits w is.0).2 $ sets ! (of_opd ! (get_in ! (fld ! refl (stop !)) (sub ! 0 refl (whole !)))) refl (fits w is.0).1 $ sets
            ! (of_opd ! (get ! refl)) refl (fits w is.0).0 $
            returns ! (look_at ! 0 refl) $ free_all ! refl $ by ! (ends w is.0)))));
      }

  pub walk_rror : {n m p : ℕ} {os : List (ℕ × ℕ)} {ks : List Kind} {f : Callee} {τ τ₀ τ₁ τ₂ τ₃ τ₄ τₐ τₜ : Ty} {ν : Sym} {τs : Tys} {h₀ h₁ h₂ h₃ h₄ hₐ
      hₜ m₃ : Home} {u₁ u₂ u₃ u₄ : List Val} → One τ₁ u₁ → One τ₂ u₂ → One τ₃ u₃ → One τ₄ u₄ → Fits τ τ₀ τₐ (ty_struct ν (tcons τₜ τs))
      → Walk (fn_of n m p os ks (local τ₀ h₀ ∷ local τ₁ h₁ ∷ local τ₂ h₂ ∷ local τ₃ h₃ ∷ local τ₄ h₄ ∷ local τₐ hₐ ∷ local (ty_struct ν (tcons τₜ τs))
      hₜ ∷ local τ₃ m₃ ∷ []) (moved 7 3 (body_of f (copy (place 1 []) ∷ copy (place 2 []) ∷ copy (place 7 []) ∷ copy (place 4 []) ∷ []) 5 6))) f τ
      (u₁ ++ (u₂ ++ (u₃ ++ (u₄ ++ []))))
  walk_rror {n} {m} {p} {os} {ks} {f} {τ} {τ₀} {τ₁} {τ₂} {τ₃} {τ₄} {τₐ} {τₜ} {ν} {τs} {h₀} {h₁} {h₂} {h₃} {h₄} {hₐ} {hₜ} {m₃} {u₁} {u₂} {u₃} {u₄} o₁
      o₂ o₃ o₄ fits = subst (Walk (fn_of n m p os ks
      (local τ₀ h₀ ∷ local τ₁ h₁ ∷ local τ₂ h₂ ∷ local τ₃ h₃ ∷ local τ₄ h₄ ∷ local τₐ hₐ ∷ local (ty_struct ν (tcons τₜ τs)) hₜ ∷ local τ₃ m₃ ∷ [])
      (moved 7 3 (body_of f (copy (place 1 []) ∷ copy (place 2 []) ∷ copy (place 7 []) ∷ copy (place 4 []) ∷ []) 5 6))) f τ)
      (sym (λ i. o₁.is i ++ (o₂.is i ++ (o₃.is i ++ (o₄.is i ++ []))))) (at_rror o₁.good o₂.good o₃.good o₄.good fits)
