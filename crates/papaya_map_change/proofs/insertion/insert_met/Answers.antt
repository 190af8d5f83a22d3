use Rattle.std.proofs.Common.{◌≡◌, ◌∙◌, Result, Ok, Err, IfOk, Some, refl, sym, ap, subst}
use Rattle.papaya_call.specs.declared.machine.State.TheVariants.{AtRoot}
use Rattle.papaya_call.specs.declared.made.Made.{Made}
use Rattle.papaya_call.specs.Made.{nothing_made}
use Rattle.papaya_call.specs.Write.{made_of}
use Rattle.papaya_map_book.specs.declared.rule.entry.Named.TheVariants as names
use Rattle.papaya_map_book.specs.Hashes.{hash_of}
use Rattle.papaya_map_book.specs.Logs.{Stored}
use Rattle.papaya_map_book.specs.Parts.{begun_of}
use Rattle.papaya_map_book.specs.declared.book.pairs.ValuePart.TheVariants as values
use Rattle.papaya_map_book.specs.Rule.{IsPlaced}
use Rattle.papaya_map_lookup.specs.History.{key_of}
use Rattle.papaya_map_lookup.proofs.KeptKeys.{key_at_stays}
use Rattle.papaya_map_change.specs.Seeking.{insertion_at}
use Rattle.papaya_map_change.specs.Writing.{HasKey, HasKeyAt, HasValue, held_value}
use Rattle.papaya_map_change.proofs.InsertingReplies.{put_since}
use Rattle.papaya_map_change.proofs.Logged.{begins_met}
use Rattle.papaya_map_change.proofs.insertion.insert_met.Goals as goal

if_ok : {A E : Type 0} (P Q : A → Type 0) (r : Result A E) → IfOk r P → ((a : A) → P a → Q a) → IfOk r Q
if_ok P Q (Ok a) p f = f a p
if_ok P Q (Err e) p f = tt

pub drive-requires-clause-can : goal.drive-requires-clause-can
drive-requires-clause-can g c =
    let hash = (hash_of g.K.Hash.hash_input g.S.BuildHasher.build_hasher g.S.Hasher.Hasher.write g.S.Hasher.Hasher.finish) in
    let w = c.learn.new.self.book.now in let log = c.learn.new.self.sight.log in let q = c.args.pair in
    let placed : IsPlaced (begun_of w.parts) (Some w.begun.book) (names.Pair q) = rw c.learn.ensures.sees.book c.requires.placed in
    let hashed : c.args.hash ≡ hash w.parts.hasher c.args.key = rw c.learn.ensures.sees.book c.requires.hashed in
    let met : HasKeyAt log c.args.write.place.table c.args.write.place.probe.i (key_of q) = key_at_stays g.K.PartialEq.eq g.K.Hash.hash_input
    g.S.BuildHasher.build_hasher g.S.Hasher.Hasher.write g.S.Hasher.Hasher.finish g.met.K.Eq.laws g.met.K.Hash.respects_eq (begun_of w.parts)
    c.args.window.now.sight.log log c.learn.ensures.lawful c.learn.ensures.sees.log c.args.write.place.table c.args.write.place.probe.i (key_of q)
    c.requires.met in
    let of : c.of.result ≡ record { pair = q.index; table = c.args.write.place.table; index = c.args.write.place.probe.i } = c.of.ensures
    ∙ ap (made_of c.args.write) c.index.ensures in
    let parts = c.begin-insertion.ensures.parts in
    let value_part = parts.1 ∙ ap (λ (z : Stored _ _). Some (values.Of z)) c.again.ensures in
    let has_key = subst (λ (o : _). HasKey (begun_of w.parts) w.begun.book c.args.key o) (sym parts.0) (refl, tt) in
    let has_value = subst (λ (o : _). HasValue (begun_of w.parts) w.begun.book o) (sym value_part) placed in
    let value_is = ap held_value value_part in
    let made : Made = record (nothing_made w.parts.limit) {
      of = Some
          (record { pair = q.index; table = c.args.write.place.table; index = c.args.write.place.probe.i });
    } in
    let stood = c.set_made.ensures in let empty = c.begin-insertion.ensures.empty in
    let machine : c.set_made.new.self.machine ≡ insertion_at c.args.hash w.parts.mode c.args.means.now.initial made AtRoot = ap
    (λ z. z.machine) stood ∙ (λ i. record (c.begin-insertion.ensures.machine i) {
      call = record (c.begin-insertion.ensures.machine i).call {
        made = record (c.begin-insertion.ensures.machine i).call.made { of = Some (of i) };
      };
    }) in
    let there = machine ∙ ap (λ h. insertion_at h w.parts.mode c.args.means.now.initial made AtRoot) hashed in (
      c.args.key,
      q.value.value,
      log,
      begins_met g.K.PartialEq.eq hash (begun_of w.parts) w.begun.book c.args.key q placed c.requires.same log _
          c.learn.ensures.lawful c.args.means.now.initial (ap (λ z. z.table) stood ∙ empty.table.0, ap (λ z. z.copier.fresh) stood ∙ empty.table.1) (
            ap (λ z. z.copier.last) stood ∙ empty.pairs.0,
            ap (λ z. z.copier.kept) stood ∙ empty.pairs.1,
            ap (λ z. z.taken) stood ∙ empty.pairs.2,
            ap (λ z. z.put) stood ∙ empty.pairs.3,
          ) has_key
          has_value
          value_is c.args.write.place.table c.args.write.place.probe.i met there c.begin-insertion.ensures.made.0 refl,
    )

pub returns-clause-put : goal.returns-clause-put
returns-clause-put g c =
    let hash = (hash_of g.K.Hash.hash_input g.S.BuildHasher.build_hasher g.S.Hasher.Hasher.write g.S.Hasher.Hasher.finish) in
    let w = c.learn.new.self.book.now in let log = c.learn.new.self.sight.log in let q = c.args.pair in
    let placed : IsPlaced (begun_of w.parts) (Some w.begun.book) (names.Pair q) = rw c.learn.ensures.sees.book c.requires.placed in
    let hashed : c.args.hash ≡ hash w.parts.hasher c.args.key = rw c.learn.ensures.sees.book c.requires.hashed in
    let met : HasKeyAt log c.args.write.place.table c.args.write.place.probe.i (key_of q) = key_at_stays g.K.PartialEq.eq g.K.Hash.hash_input
    g.S.BuildHasher.build_hasher g.S.Hasher.Hasher.write g.S.Hasher.Hasher.finish g.met.K.Eq.laws g.met.K.Hash.respects_eq (begun_of w.parts)
    c.args.window.now.sight.log log c.learn.ensures.lawful c.learn.ensures.sees.log c.args.write.place.table c.args.write.place.probe.i (key_of q)
    c.requires.met in
    let of : c.of.result ≡ record { pair = q.index; table = c.args.write.place.table; index = c.args.write.place.probe.i } = c.of.ensures
    ∙ ap (made_of c.args.write) c.index.ensures in
    let parts = c.begin-insertion.ensures.parts in
    let value_part = parts.1 ∙ ap (λ (z : Stored _ _). Some (values.Of z)) c.again.ensures in
    let has_key = subst (λ (o : _). HasKey (begun_of w.parts) w.begun.book c.args.key o) (sym parts.0) (refl, tt) in
    let has_value = subst (λ (o : _). HasValue (begun_of w.parts) w.begun.book o) (sym value_part) placed in
    let value_is = ap held_value value_part in
    let made : Made = record (nothing_made w.parts.limit) {
      of = Some
          (record { pair = q.index; table = c.args.write.place.table; index = c.args.write.place.probe.i });
    } in
    let stood = c.set_made.ensures in let empty = c.begin-insertion.ensures.empty in
    let machine : c.set_made.new.self.machine ≡ insertion_at c.args.hash w.parts.mode c.args.means.now.initial made AtRoot = ap
    (λ z. z.machine) stood ∙ (λ i. record (c.begin-insertion.ensures.machine i) {
      call = record (c.begin-insertion.ensures.machine i).call {
        made = record (c.begin-insertion.ensures.machine i).call.made { of = Some (of i) };
      };
    }) in
    let there = machine ∙ ap (λ h. insertion_at h w.parts.mode c.args.means.now.initial made AtRoot) hashed in
    if_ok _ _ c.drive.result c.drive.ensures.put
    (λ a h. put_since g.K.PartialEq.eq c.args.key q.value.value c.args.window.now.sight.log log c.drive.new.window.sight.log a
    c.learn.ensures.sees.log (h c.args.key q.value.value log
    (begins_met g.K.PartialEq.eq hash (begun_of w.parts) w.begun.book c.args.key q placed c.requires.same log _ c.learn.ensures.lawful
    c.args.means.now.initial (ap (λ z. z.table) stood ∙ empty.table.0, ap (λ z. z.copier.fresh) stood ∙ empty.table.1) (
      ap (λ z. z.copier.last) stood ∙ empty.pairs.0,
      ap (λ z. z.copier.kept) stood ∙ empty.pairs.1,
      ap (λ z. z.taken) stood ∙ empty.pairs.2,
      ap (λ z. z.put) stood ∙ empty.pairs.3,
    ) has_key
    has_value
    value_is c.args.write.place.table c.args.write.place.probe.i met there c.begin-insertion.ensures.made.0 refl)))
