use Rattle.std.proofs.Common.{rules, ◌≡◌, ◌-◌, inl, sym, ◌∙◌, arith}
use Rattle.papaya_words.specs.Word.{kind_of, pair_of as number_of}
use Rattle.papaya_words.specs.declared.word.Kind.TheVariants.{Marked}
use Rattle.papaya_call.specs.declared.ask.At.TheVariants.{Slot}
use Rattle.papaya_core_store.specs.Tables.{table_of, word_at}
use Rattle.papaya_seq.proofs.WalkSteps.{searched_more, searched_over, sized_table}
use Rattle.papaya_seq.proofs.walks.marks.Goals as goal
use Rattle.papaya_seq.proofs.walks.marks.Goals.{in_default-kind-via-in-Marked+else-pair, in_default-kind-via-in_default-kind}

pub loop-probe-preserved : goal.loop-probe-preserved
loop-probe-preserved g c =
    let store = c.args.store.now in
    let (table, there, long, far, size) = sized_table store (table_of store.words.tables c.args.table) c.in-Size.len c.in-Size.limit
    (λ t e. c.requires c.args.table t e) (sym c.in-Size.is ∙ c.size_of.ensures) in
    let within = c.loop-probe.invariant.within in
    let other : kind_of (word_at store.words (Slot c.args.table c.loop-probe.probe.i)) ≡ Marked
    → number_of (word_at store.words (Slot c.args.table c.loop-probe.probe.i)) ≡ c.args.pair → ⊥ = λ marked names. elim c.in_default-kind.branch [
      | in_default-kind-via-in-Marked+else-pair w ↦ search rules
      | in_default-kind-via-in_default-kind w ↦ search rules
    ] in
    searched_more store c.args.hash c.args.table c.args.pair c.in-Size.len c.loop-probe.probe c.loop-probe.invariant (c.in-Size.len - 1)
    (omega (arith, within)) size.power c.next.new.self c.next.ensures.path c.next.ensures.bound c.next.ensures.len other

pub returns : goal.returns
returns g c =
    let store = c.args.store.now in
    let (table, there, long, far, size) = sized_table store (table_of store.words.tables c.args.table) c.in-Size.len c.in-Size.limit
    (λ t e. c.requires c.args.table t e) (sym c.in-Size.is ∙ c.size_of.ensures) in
    let past = c.loop-probe-test.false in
    searched_over store c.args.hash c.args.table c.args.pair c.in-Size.len c.loop-probe.probe c.loop-probe.invariant table there long
    (inl (omega (arith, past, far)))
