use Rattle.std.proofs.Common.{◌≡◌, None, Result, Ok, Err, IfOk, Some, refl, sym, ap, ◌∙◌, subst}
use Rattle.papaya_call.specs.declared.machine.State.{State}
use Rattle.papaya_call.specs.declared.machine.State.TheVariants.{Growing}
use Rattle.papaya_call.specs.declared.need.Need.TheVariants.{Room}
use Rattle.papaya_call.specs.Made.{nothing_made}
use Rattle.papaya_map_book.specs.Hashes.{hash_of}
use Rattle.papaya_map_book.specs.Parts.{begun_of}
use Rattle.papaya_map_change.specs.Seeking.{IsInsertingAt, insertion_at}
use Rattle.papaya_map_change.specs.Writing.{HasKey, HasValue, held_value}
use Rattle.papaya_map_change.proofs.Onward.{begins_onward}
use Rattle.papaya_map_change.proofs.insertion.insert_onward.Goals as goal

if_ok : {A E : Type 0} (P Q : A → Type 0) (r : Result A E) → IfOk r P → ((a : A) → P a → Q a) → IfOk r Q
if_ok P Q (Ok a) p f = f a p
if_ok P Q (Err e) p f = tt

pub drive-requires-clause-can : goal.drive-requires-clause-can
drive-requires-clause-can g c =
    let hash = (hash_of g.K.Hash.hash_input g.S.BuildHasher.build_hasher g.S.Hasher.Hasher.write g.S.Hasher.Hasher.finish) in
    let w = c.args.window.now.book.now in let b = begun_of w.parts in let log = c.args.window.now.sight.log in let key = c.args.key in
    let to = Growing (Room c.args.number) in
    let stood = c.enter_state.ensures in
    let parts = c.begin-insertion.ensures.parts in
    let has_key = subst (λ (o : _). HasKey b w.begun.book key o) (sym parts.0) (refl, tt) in
    let has_value = subst (λ (o : _). HasValue b w.begun.book o) (sym parts.1) tt in let value_is = ap held_value parts.1 in
    let machine : c.enter_state.new.self.machine ≡ insertion_at c.args.hash w.parts.mode c.args.means.now.initial (nothing_made w.parts.limit) to = ap
    (λ z. z.machine) stood ∙ (λ i. record (c.begin-insertion.ensures.machine i) { call = record (c.begin-insertion.ensures.machine i).call { state = to } }) in
    let there = machine ∙ ap (λ h. insertion_at h w.parts.mode c.args.means.now.initial (nothing_made w.parts.limit) to) c.requires.hashed in
    let st = c.requires.stands in let led : Some to ≡ Some st.0 = st.1 in let is : to ≡ st.0 = cc led in
    let r = subst (λ (z : State). IsInsertingAt g.K.PartialEq.eq hash b w.begun.book key st.2.0 log z None c.args.table.now) (sym is) st.2.1 in (
      key,
      c.args.value,
      st.2.0,
      begins_onward g.K.PartialEq.eq hash b w.begun.book key st.2.0 log c.args.number c.args.table r c.args.value _
          c.args.means.now.initial (ap (λ z. z.table) stood) (ap (λ z. z.copier.fresh) stood ∙ c.begin-insertion.ensures.empty.table.1) (
            ap (λ z. z.copier.last) stood ∙ c.begin-insertion.ensures.empty.pairs.0,
            ap (λ z. z.copier.kept) stood ∙ c.begin-insertion.ensures.empty.pairs.1,
            ap (λ z. z.taken) stood
                ∙ c.begin-insertion.ensures.empty.pairs.2,
            ap (λ z. z.put) stood ∙ c.begin-insertion.ensures.empty.pairs.3,
          ) has_key has_value value_is there c.begin-insertion.ensures.made.0 c.begin-insertion.ensures.made.1,
    )

pub returns-clause-put : goal.returns-clause-put
returns-clause-put g c =
    let hash = (hash_of g.K.Hash.hash_input g.S.BuildHasher.build_hasher g.S.Hasher.Hasher.write g.S.Hasher.Hasher.finish) in
    let w = c.args.window.now.book.now in let b = begun_of w.parts in let log = c.args.window.now.sight.log in let key = c.args.key in
    let to = Growing (Room c.args.number) in
    let stood = c.enter_state.ensures in
    let parts = c.begin-insertion.ensures.parts in
    let has_key = subst (λ (o : _). HasKey b w.begun.book key o) (sym parts.0) (refl, tt) in
    let has_value = subst (λ (o : _). HasValue b w.begun.book o) (sym parts.1) tt in let value_is = ap held_value parts.1 in
    let machine : c.enter_state.new.self.machine ≡ insertion_at c.args.hash w.parts.mode c.args.means.now.initial (nothing_made w.parts.limit) to = ap
    (λ z. z.machine) stood ∙ (λ i. record (c.begin-insertion.ensures.machine i) { call = record (c.begin-insertion.ensures.machine i).call { state = to } }) in
    let there = machine ∙ ap (λ h. insertion_at h w.parts.mode c.args.means.now.initial (nothing_made w.parts.limit) to) c.requires.hashed in
    if_ok _ _ c.drive.result c.drive.ensures.put (λ a h begun state led r0.
    let is : to ≡ state = cc led in
    let r = subst (λ (z : State). IsInsertingAt g.K.PartialEq.eq hash b w.begun.book key begun log z None c.args.table.now) (sym is) r0 in
    h key c.args.value begun (begins_onward g.K.PartialEq.eq hash b w.begun.book key begun log c.args.number c.args.table r c.args.value _
    c.args.means.now.initial (ap (λ z. z.table) stood) (ap (λ z. z.copier.fresh) stood ∙ c.begin-insertion.ensures.empty.table.1) (
      ap (λ z. z.copier.last) stood ∙ c.begin-insertion.ensures.empty.pairs.0,
      ap (λ z. z.copier.kept) stood ∙ c.begin-insertion.ensures.empty.pairs.1,
      ap (λ z. z.taken) stood
          ∙ c.begin-insertion.ensures.empty.pairs.2,
      ap (λ z. z.put) stood ∙ c.begin-insertion.ensures.empty.pairs.3,
    ) has_key has_value value_is there c.begin-insertion.ensures.made.0 c.begin-insertion.ensures.made.1))
