use Rattle.std.proofs.Common.{◌≡◌, refl, ◌∙◌, subst}
use Rattle.papaya_call.specs.declared.ask.Answer.TheVariants.{Size, Word}
use Rattle.papaya_call.specs.declared.copy.copying.Copying.TheVariants.{Stepping}
use Rattle.papaya_call.specs.declared.copy.step.Step.TheVariants.{Aiming, AtRoot, Sizing}
use Rattle.papaya_call.specs.declared.chain.ask.Answer.TheVariants.{Call}
use Rattle.papaya_map_book.specs.Hashes.{hash_of}
use Rattle.papaya_map_book.specs.Parts.{begun_of}
use Rattle.papaya_map_change.specs.Window.Settling.{stop_in}
use Rattle.papaya_map_change.specs.Copier.{AnswersLoad}
use Rattle.papaya_map_change.specs.Settling.{Stop}
use Rattle.papaya_map_change.proofs.SettlingTurns.{ends_here, ends_then, leads_one}
use Rattle.papaya_map_change.proofs.SettlingSeen.{TurnsBy, asked, can_on}
use Rattle.std.proofs.Common.{arith}
use Rattle.papaya_call.specs.declared.ask.At.TheVariants.{Next, Root}
use Rattle.papaya_map_change.proofs.SettlingSeen.{turn_on}
use Rattle.papaya_map_change.proofs.SettlingTurns.{leads_then}
use Rattle.papaya_map_change.specs.Copier.{AnswersSize}
use Rattle.papaya_map_change.proofs.ChunkTurns.{aims_at, roots}
use Rattle.papaya_map_change.proofs.copier.Copier.find_tables.Goals as goal

pub returns-in-All-clause-ends : goal.returns-in-All-clause-ends
returns-in-All-clause-ends g c =
    let w = c.args.window.now in let h = c.args.self.now in let eq = g.K.PartialEq.eq in
    let hash = hash_of g.K.Hash.hash_input g.S.BuildHasher.build_hasher g.S.Hasher.Hasher.write g.S.Hasher.Hasher.finish in
    let b = begun_of w.book.now.parts in let name = w.book.now.begun.book in let mode = c.args.mode in let aim = c.args.aim in
    let one = c.load-from in let w1 = one.new.window in let h1 = one.new.self in let from = one.result in
    let s : Stop _ _ _ _ = stop_in w (Stepping aim AtRoot) h in
    let loads : AnswersLoad eq hash b name Root w.sight.log h w1.sight.log h1 (Call (Word from)) =
    record { word = from; is = refl; as_loaded = one.ensures.as_loaded; rest = one.ensures.rest } in
    ends_here eq hash b name mode s w1.sight.log h1 (Call (Word from)) one.ensures.sees.log loads tt tt

pub returns-then-from-eq0-clause-ends : goal.returns-then-from-eq0-clause-ends
returns-then-from-eq0-clause-ends g c =
    let w = c.args.window.now in let h = c.args.self.now in let eq = g.K.PartialEq.eq in
    let hash = hash_of g.K.Hash.hash_input g.S.BuildHasher.build_hasher g.S.Hasher.Hasher.write g.S.Hasher.Hasher.finish in
    let b = begun_of w.book.now.parts in let name = w.book.now.begun.book in let mode = c.args.mode in let aim = c.args.aim in
    let one = c.load-from in let w1 = one.new.window in let h1 = one.new.self in let from = one.result in
    let s : Stop _ _ _ _ = stop_in w (Stepping aim AtRoot) h in
    let loads : AnswersLoad eq hash b name Root w.sight.log h w1.sight.log h1 (Call (Word from)) =
    record { word = from; is = refl; as_loaded = one.ensures.as_loaded; rest = one.ensures.rest } in
    ends_here eq hash b name mode s w1.sight.log h1 (Call (Word from)) one.ensures.sees.log loads tt tt

pub load-to-requires : goal.load-to-requires
load-to-requires g c =
    let w = c.args.window.now in let h = c.args.self.now in let eq = g.K.PartialEq.eq in
    let hash = hash_of g.K.Hash.hash_input g.S.BuildHasher.build_hasher g.S.Hasher.Hasher.write g.S.Hasher.Hasher.finish in
    let b = begun_of w.book.now.parts in let name = w.book.now.begun.book in let mode = c.args.mode in let aim = c.args.aim in
    let one = c.load-from in let w1 = one.new.window in let h1 = one.new.self in let from = one.result in
    let s : Stop _ _ _ _ = stop_in w (Stepping aim AtRoot) h in
    let loads : AnswersLoad eq hash b name Root w.sight.log h w1.sight.log h1 (Call (Word from)) =
    record { word = from; is = refl; as_loaded = one.ensures.as_loaded; rest = one.ensures.rest } in
    let t : Stop _ _ _ _ = stop_in w1 (Stepping aim (Aiming from from)) h1 in
    let some : from ≡ 0 → ⊥ = λ e. absurd (omega arith) in
    let turn : TurnsBy w mode s t = roots eq hash b name mode aim w.sight.log h w1.sight.log h1 one.ensures.sees.log from loads
    c.in_default.not-All some in
    let may = can_on w w1 one.ensures.sees.book mode s t c.requires.can turn in
    record { reach = asked w1 mode t may }

pub returns-then-to-eq0-clause-ends : goal.returns-then-to-eq0-clause-ends
returns-then-to-eq0-clause-ends g c =
    let w = c.args.window.now in let h = c.args.self.now in let eq = g.K.PartialEq.eq in
    let hash = hash_of g.K.Hash.hash_input g.S.BuildHasher.build_hasher g.S.Hasher.Hasher.write g.S.Hasher.Hasher.finish in
    let b = begun_of w.book.now.parts in let name = w.book.now.begun.book in let mode = c.args.mode in let aim = c.args.aim in
    let one = c.load-from in let w1 = one.new.window in let h1 = one.new.self in let from = one.result in
    let s : Stop _ _ _ _ = stop_in w (Stepping aim AtRoot) h in
    let loads : AnswersLoad eq hash b name Root w.sight.log h w1.sight.log h1 (Call (Word from)) =
    record { word = from; is = refl; as_loaded = one.ensures.as_loaded; rest = one.ensures.rest } in
    let t : Stop _ _ _ _ = stop_in w1 (Stepping aim (Aiming from from)) h1 in
    let some : from ≡ 0 → ⊥ = λ e. absurd (omega arith) in
    let turn : TurnsBy w mode s t = roots eq hash b name mode aim w.sight.log h w1.sight.log h1 one.ensures.sees.log from loads
    c.in_default.not-All some in
    let may = can_on w w1 one.ensures.sees.book mode s t c.requires.can turn in
    let next = c.load-to in let w2 = next.new.window in let h2 = next.new.self in let to = next.result in
    let same = next.ensures.sees.book ∙ one.ensures.sees.book in
    let led : AnswersLoad eq hash b name (Next from) w1.sight.log h1 w2.sight.log h2 (Call (Word to)) =
    subst (λ (z : _). AnswersLoad eq hash (begun_of z.now.parts) z.now.begun.book (Next from) w1.sight.log h1 w2.sight.log h2 (Call (Word to)))
    one.ensures.sees.book (record { word = to; is = refl; as_loaded = next.ensures.as_loaded; rest = next.ensures.rest }) in
    ends_then eq hash b name mode s t (stop_in w2 (Stepping aim (Aiming from from)) h2) (Call (Word to)) (leads_one eq hash b name mode s t turn)
    (ends_here eq hash b name mode t w2.sight.log h2 (Call (Word to)) next.ensures.sees.log led tt tt)

pub returns-in_default-mode-clause-ends : goal.returns-in_default-mode-clause-ends
returns-in_default-mode-clause-ends g c =
    let w = c.args.window.now in let h = c.args.self.now in let eq = g.K.PartialEq.eq in
    let hash = hash_of g.K.Hash.hash_input g.S.BuildHasher.build_hasher g.S.Hasher.Hasher.write g.S.Hasher.Hasher.finish in
    let b = begun_of w.book.now.parts in let name = w.book.now.begun.book in let mode = c.args.mode in let aim = c.args.aim in
    let one = c.load-from in let w1 = one.new.window in let h1 = one.new.self in let from = one.result in
    let s : Stop _ _ _ _ = stop_in w (Stepping aim AtRoot) h in
    let loads : AnswersLoad eq hash b name Root w.sight.log h w1.sight.log h1 (Call (Word from)) =
    record { word = from; is = refl; as_loaded = one.ensures.as_loaded; rest = one.ensures.rest } in
    let t : Stop _ _ _ _ = stop_in w1 (Stepping aim (Aiming from from)) h1 in
    let some : from ≡ 0 → ⊥ = λ e. absurd (omega arith) in
    let turn : TurnsBy w mode s t = roots eq hash b name mode aim w.sight.log h w1.sight.log h1 one.ensures.sees.log from loads
    c.in_default.not-All some in
    let may = can_on w w1 one.ensures.sees.book mode s t c.requires.can turn in
    let next = c.load-to in let w2 = next.new.window in let h2 = next.new.self in let to = next.result in
    let same = next.ensures.sees.book ∙ one.ensures.sees.book in
    let led : AnswersLoad eq hash b name (Next from) w1.sight.log h1 w2.sight.log h2 (Call (Word to)) =
    subst (λ (z : _). AnswersLoad eq hash (begun_of z.now.parts) z.now.begun.book (Next from) w1.sight.log h1 w2.sight.log h2 (Call (Word to)))
    one.ensures.sees.book (record { word = to; is = refl; as_loaded = next.ensures.as_loaded; rest = next.ensures.rest }) in
    ends_then eq hash b name mode s t (stop_in w2 (Stepping aim (Aiming from from)) h2) (Call (Word to)) (leads_one eq hash b name mode s t turn)
    (ends_here eq hash b name mode t w2.sight.log h2 (Call (Word to)) next.ensures.sees.log led tt tt)

pub size-len-requires : goal.size-len-requires
size-len-requires g c =
    let w = c.args.window.now in let h = c.args.self.now in let eq = g.K.PartialEq.eq in
    let hash = hash_of g.K.Hash.hash_input g.S.BuildHasher.build_hasher g.S.Hasher.Hasher.write g.S.Hasher.Hasher.finish in
    let b = begun_of w.book.now.parts in let name = w.book.now.begun.book in let mode = c.args.mode in let aim = c.args.aim in
    let one = c.load-from in let w1 = one.new.window in let h1 = one.new.self in let from = one.result in
    let s : Stop _ _ _ _ = stop_in w (Stepping aim AtRoot) h in
    let loads : AnswersLoad eq hash b name Root w.sight.log h w1.sight.log h1 (Call (Word from)) =
    record { word = from; is = refl; as_loaded = one.ensures.as_loaded; rest = one.ensures.rest } in
    let t : Stop _ _ _ _ = stop_in w1 (Stepping aim (Aiming from from)) h1 in
    let some : from ≡ 0 → ⊥ = λ e. absurd (omega arith) in
    let turn : TurnsBy w mode s t = roots eq hash b name mode aim w.sight.log h w1.sight.log h1 one.ensures.sees.log from loads
    c.in_default.not-All some in
    let may = can_on w w1 one.ensures.sees.book mode s t c.requires.can turn in
    let next = c.load-to in let w2 = next.new.window in let h2 = next.new.self in let to = next.result in
    let same = next.ensures.sees.book ∙ one.ensures.sees.book in
    let led : AnswersLoad eq hash b name (Next from) w1.sight.log h1 w2.sight.log h2 (Call (Word to)) =
    subst (λ (z : _). AnswersLoad eq hash (begun_of z.now.parts) z.now.begun.book (Next from) w1.sight.log h1 w2.sight.log h2 (Call (Word to)))
    one.ensures.sees.book (record { word = to; is = refl; as_loaded = next.ensures.as_loaded; rest = next.ensures.rest }) in
    let u : Stop _ _ _ _ = stop_in w2 (Stepping aim (Sizing from to)) h2 in
    let there : to ≡ 0 → ⊥ = λ e. absurd (omega arith) in
    let turn₂ = aims_at eq hash b name mode aim w1.sight.log h1 w2.sight.log h2 next.ensures.sees.log from to c.in-Incremental.field-0 led
    c.in-Incremental.is there in
    let turn₂ᵗ : TurnsBy w1 mode t u = turn_on w w1 one.ensures.sees.book mode t u turn₂ in
    let may₂ = can_on w1 w2 next.ensures.sees.book mode t u may turn₂ᵗ in
    record { come = asked w2 mode u may₂ }

pub returns-clause-ends : goal.returns-clause-ends
returns-clause-ends g c =
    let w = c.args.window.now in let h = c.args.self.now in let eq = g.K.PartialEq.eq in
    let hash = hash_of g.K.Hash.hash_input g.S.BuildHasher.build_hasher g.S.Hasher.Hasher.write g.S.Hasher.Hasher.finish in
    let b = begun_of w.book.now.parts in let name = w.book.now.begun.book in let mode = c.args.mode in let aim = c.args.aim in
    let one = c.load-from in let w1 = one.new.window in let h1 = one.new.self in let from = one.result in
    let s : Stop _ _ _ _ = stop_in w (Stepping aim AtRoot) h in
    let loads : AnswersLoad eq hash b name Root w.sight.log h w1.sight.log h1 (Call (Word from)) =
    record { word = from; is = refl; as_loaded = one.ensures.as_loaded; rest = one.ensures.rest } in
    let t : Stop _ _ _ _ = stop_in w1 (Stepping aim (Aiming from from)) h1 in
    let some : from ≡ 0 → ⊥ = λ e. absurd (omega arith) in
    let turn : TurnsBy w mode s t = roots eq hash b name mode aim w.sight.log h w1.sight.log h1 one.ensures.sees.log from loads
    c.in_default.not-All some in
    let may = can_on w w1 one.ensures.sees.book mode s t c.requires.can turn in
    let next = c.load-to in let w2 = next.new.window in let h2 = next.new.self in let to = next.result in
    let same = next.ensures.sees.book ∙ one.ensures.sees.book in
    let led : AnswersLoad eq hash b name (Next from) w1.sight.log h1 w2.sight.log h2 (Call (Word to)) =
    subst (λ (z : _). AnswersLoad eq hash (begun_of z.now.parts) z.now.begun.book (Next from) w1.sight.log h1 w2.sight.log h2 (Call (Word to)))
    one.ensures.sees.book (record { word = to; is = refl; as_loaded = next.ensures.as_loaded; rest = next.ensures.rest }) in
    let u : Stop _ _ _ _ = stop_in w2 (Stepping aim (Sizing from to)) h2 in
    let there : to ≡ 0 → ⊥ = λ e. absurd (omega arith) in
    let turn₂ = aims_at eq hash b name mode aim w1.sight.log h1 w2.sight.log h2 next.ensures.sees.log from to c.in-Incremental.field-0 led
    c.in-Incremental.is there in
    let turn₂ᵗ : TurnsBy w1 mode t u = turn_on w w1 one.ensures.sees.book mode t u turn₂ in
    let may₂ = can_on w1 w2 next.ensures.sees.book mode t u may turn₂ᵗ in
    let last = c.size-len in let w3 = last.new.window in
    let end : Stop _ _ _ _ = stop_in w3 (Stepping aim (Sizing from to)) h2 in
    let answer = Call (Size last.result.0 last.result.1) in
    let sized : AnswersSize eq hash b name from h2 w3.sight.log h2 answer =
    subst (λ (z : _). AnswersSize eq hash (begun_of z.now.parts) z.now.begun.book from h2 w3.sight.log h2 answer) same
    (record { size = last.result; is = refl; size_of = last.ensures.size; rest = refl }) in
    ends_then eq hash b name mode s u end answer (leads_then eq hash b name mode s t u (leads_one eq hash b name mode s t turn)
    (leads_one eq hash b name mode t u turn₂)) (ends_here eq hash b name mode u w3.sight.log h2 answer last.ensures.sees.log sized tt last.ensures.fit)
