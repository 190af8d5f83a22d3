use Rattle.std.proofs.Common.{◌≡◌, ◌∙◌, Result, Ok, Err, IfOk, Some, refl, sym, ap, subst}
use Rattle.papaya_call.specs.declared.machine.State.TheVariants.{AtRoot}
use Rattle.papaya_call.specs.declared.made.Made.{Made}
use Rattle.papaya_call.specs.Made.{nothing_made}
use Rattle.papaya_map_book.specs.declared.rule.entry.Named.TheVariants as names
use Rattle.papaya_map_book.specs.Hashes.{hash_of}
use Rattle.papaya_map_book.specs.Logs.{Stored}
use Rattle.papaya_map_book.specs.Parts.{begun_of}
use Rattle.papaya_map_book.specs.declared.book.pairs.KeyPart.TheVariants as keys
use Rattle.papaya_map_book.specs.declared.book.pairs.ValuePart.TheVariants as values
use Rattle.papaya_map_book.specs.Rule.{IsPlaced}
use Rattle.papaya_map_lookup.specs.History.{key_of}
use Rattle.papaya_map_change.specs.Seeking.{insertion_at}
use Rattle.papaya_map_change.specs.Writing.{HasKey, HasValue, held_value}
use Rattle.papaya_map_change.proofs.InsertingReplies.{put_since}
use Rattle.papaya_map_change.proofs.Logged.{begins_logged}
use Rattle.papaya_map_change.proofs.insertion.insert_stored.Goals as goal

if_ok : {A E : Type 0} (P Q : A → Type 0) (r : Result A E) → IfOk r P → ((a : A) → P a → Q a) → IfOk r Q
if_ok P Q (Ok a) p f = f a p
if_ok P Q (Err e) p f = tt

pub drive-requires-clause-can : goal.drive-requires-clause-can
drive-requires-clause-can g c =
    let hash = (hash_of g.K.Hash.hash_input g.S.BuildHasher.build_hasher g.S.Hasher.Hasher.write g.S.Hasher.Hasher.finish) in
    let w = c.learn.new.self.book.now in let log = c.learn.new.self.sight.log in let q = c.args.pair in
    let placed : IsPlaced (begun_of w.parts) (Some w.begun.book) (names.Pair q) = rw c.learn.ensures.sees.book c.requires.placed in
    let hashed : c.args.hash ≡ hash w.parts.hasher (key_of q) = rw c.learn.ensures.sees.book c.requires.hashed in
    let parts = c.begin-insertion.ensures.parts in
    let key_part = parts.0 ∙ ap (λ (z : Stored _ _). Some (keys.Of z)) c.again.ensures in
    let value_part = parts.1 ∙ ap (λ (z : Stored _ _). Some (values.Of z)) c.again-2.ensures in
    let has_key = subst (λ (o : _). HasKey (begun_of w.parts) w.begun.book (key_of q) o) (sym key_part) (refl, placed) in
    let has_value = subst (λ (o : _). HasValue (begun_of w.parts) w.begun.book o) (sym value_part) placed in
    let value_is = ap held_value value_part in
    let made : Made = record (nothing_made w.parts.limit) { own = Some q.index } in
    let stood = c.set_made.ensures in let empty = c.begin-insertion.ensures.empty in
    let machine : c.set_made.new.self.machine ≡ insertion_at c.args.hash w.parts.mode c.args.means.now.initial made AtRoot = ap
    (λ z. z.machine) stood ∙ (λ i. record (c.begin-insertion.ensures.machine i) {
      call = record (c.begin-insertion.ensures.machine i).call {
        made = record (c.begin-insertion.ensures.machine i).call.made { own = Some (c.index.ensures i) };
      };
    }) in
    let there = machine ∙ ap (λ h. insertion_at h w.parts.mode c.args.means.now.initial made AtRoot) hashed in (
      (key_of q),
      q.value.value,
      log,
      begins_logged g.K.PartialEq.eq hash (begun_of w.parts) w.begun.book (key_of q) q placed
          (g.met.K.Eq.laws.refl (key_of q)) log _ c.learn.ensures.lawful c.args.means.now.initial (ap (λ z. z.table) stood ∙ empty.table.0, ap (λ z. z.copier.fresh) stood ∙ empty.table.1) (
            ap (λ z. z.copier.last) stood ∙ empty.pairs.0,
            ap (λ z. z.copier.kept) stood ∙ empty.pairs.1,
            ap (λ z. z.taken) stood ∙ empty.pairs.2,
            ap (λ z. z.put) stood ∙ empty.pairs.3,
          )
          has_key
          has_value
          value_is refl there refl c.begin-insertion.ensures.made.1,
    )

pub returns-clause-put : goal.returns-clause-put
returns-clause-put g c =
    let hash = (hash_of g.K.Hash.hash_input g.S.BuildHasher.build_hasher g.S.Hasher.Hasher.write g.S.Hasher.Hasher.finish) in
    let w = c.learn.new.self.book.now in let log = c.learn.new.self.sight.log in let q = c.args.pair in
    let placed : IsPlaced (begun_of w.parts) (Some w.begun.book) (names.Pair q) = rw c.learn.ensures.sees.book c.requires.placed in
    let hashed : c.args.hash ≡ hash w.parts.hasher (key_of q) = rw c.learn.ensures.sees.book c.requires.hashed in
    let parts = c.begin-insertion.ensures.parts in
    let key_part = parts.0 ∙ ap (λ (z : Stored _ _). Some (keys.Of z)) c.again.ensures in
    let value_part = parts.1 ∙ ap (λ (z : Stored _ _). Some (values.Of z)) c.again-2.ensures in
    let has_key = subst (λ (o : _). HasKey (begun_of w.parts) w.begun.book (key_of q) o) (sym key_part) (refl, placed) in
    let has_value = subst (λ (o : _). HasValue (begun_of w.parts) w.begun.book o) (sym value_part) placed in
    let value_is = ap held_value value_part in
    let made : Made = record (nothing_made w.parts.limit) { own = Some q.index } in
    let stood = c.set_made.ensures in let empty = c.begin-insertion.ensures.empty in
    let machine : c.set_made.new.self.machine ≡ insertion_at c.args.hash w.parts.mode c.args.means.now.initial made AtRoot = ap
    (λ z. z.machine) stood ∙ (λ i. record (c.begin-insertion.ensures.machine i) {
      call = record (c.begin-insertion.ensures.machine i).call {
        made = record (c.begin-insertion.ensures.machine i).call.made { own = Some (c.index.ensures i) };
      };
    }) in
    let there = machine ∙ ap (λ h. insertion_at h w.parts.mode c.args.means.now.initial made AtRoot) hashed in
    if_ok _ _ c.drive.result c.drive.ensures.put
    (λ a h. put_since g.K.PartialEq.eq (key_of q) q.value.value c.args.window.now.sight.log log c.drive.new.window.sight.log a
    c.learn.ensures.sees.log (h (key_of q) q.value.value log
    (begins_logged g.K.PartialEq.eq hash (begun_of w.parts) w.begun.book (key_of q) q placed (g.met.K.Eq.laws.refl (key_of q)) log _
    c.learn.ensures.lawful c.args.means.now.initial (ap (λ z. z.table) stood ∙ empty.table.0, ap (λ z. z.copier.fresh) stood ∙ empty.table.1) (
      ap (λ z. z.copier.last) stood ∙ empty.pairs.0,
      ap (λ z. z.copier.kept) stood ∙ empty.pairs.1,
      ap (λ z. z.taken) stood ∙ empty.pairs.2,
      ap (λ z. z.put) stood ∙ empty.pairs.3,
    )
    has_key
    has_value
    value_is refl there refl c.begin-insertion.ensures.made.1)))
