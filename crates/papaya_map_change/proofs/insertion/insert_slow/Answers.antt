use Rattle.std.proofs.Common.{true, Result, Ok, Err, IfOk, ap, ◌∙◌}
use Rattle.papaya_call.specs.declared.call.Task.TheVariants.{Insert}
use Rattle.papaya_call.specs.ChainMachine.{started}
use Rattle.papaya_map_book.specs.Hashes.{hash_of}
use Rattle.papaya_map_book.specs.Parts.{begun_of}
use Rattle.papaya_map_change.proofs.Inserting.{begins}
use Rattle.papaya_map_change.proofs.InsertingReplies.{put_since}
use Rattle.papaya_map_change.proofs.insertion.insert_slow.Goals as goal

if_ok : {A E : Type 0} (P Q : A → Type 0) (r : Result A E) → IfOk r P → ((a : A) → P a → Q a) → IfOk r Q
if_ok P Q (Ok a) p f = f a p
if_ok P Q (Err e) p f = tt

pub drive-requires-clause-can : goal.drive-requires-clause-can
drive-requires-clause-can g c =
    let w = c.learn.new.self.book.now in let log = c.learn.new.self.sight.log in
    let machine = c.begin-insertion.ensures.machine ∙ ap (λ h. started (Insert true) h w.parts.mode c.args.means.now.initial 0 w.parts.limit) c.hash-hash.ensures in (
      c.args.key,
      c.args.value,
      log,
      begins g.K.PartialEq.eq (hash_of g.K.Hash.hash_input g.S.BuildHasher.build_hasher g.S.Hasher.Hasher.write g.S.Hasher.Hasher.finish)
          (begun_of w.parts) w.begun.book c.args.key c.args.value log _ c.learn.ensures.lawful c.args.means.now.initial machine c.begin-insertion.ensures.empty.table
          c.begin-insertion.ensures.empty.pairs c.begin-insertion.ensures.made.0 c.begin-insertion.ensures.made.1
          c.begin-insertion.ensures.parts.0 c.begin-insertion.ensures.parts.1,
    )

pub returns-clause-put : goal.returns-clause-put
returns-clause-put g c =
    let w = c.learn.new.self.book.now in let log = c.learn.new.self.sight.log in
    let machine = c.begin-insertion.ensures.machine ∙ ap (λ h. started (Insert true) h w.parts.mode c.args.means.now.initial 0 w.parts.limit) c.hash-hash.ensures in
    if_ok _ _ c.drive.result c.drive.ensures.put (λ a h.
    put_since g.K.PartialEq.eq c.args.key c.args.value c.args.window.now.sight.log log c.drive.new.window.sight.log a c.learn.ensures.sees.log
    (h c.args.key c.args.value log (begins g.K.PartialEq.eq
    (hash_of g.K.Hash.hash_input g.S.BuildHasher.build_hasher g.S.Hasher.Hasher.write g.S.Hasher.Hasher.finish) (begun_of w.parts) w.begun.book
    c.args.key c.args.value log _ c.learn.ensures.lawful c.args.means.now.initial machine c.begin-insertion.ensures.empty.table c.begin-insertion.ensures.empty.pairs c.begin-insertion.ensures.made.0
    c.begin-insertion.ensures.made.1 c.begin-insertion.ensures.parts.0 c.begin-insertion.ensures.parts.1)))
