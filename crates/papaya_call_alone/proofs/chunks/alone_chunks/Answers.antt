use Rattle.std.proofs.Common.{sym, subst, arith}
use Rattle.papaya_words.specs.declared.resize_mode.ResizeMode.TheVariants.{Incremental}
use Rattle.papaya_call.specs.declared.chain.resizer.Resize.TheVariants.{Chunk}
use Rattle.papaya_call.specs.Resizer.{after_in}
use Rattle.papaya_words_law.specs.Exchange.{run}
use Rattle.papaya_call_law.specs.Relies.{IsCutAs, IsModeOf}
use Rattle.papaya_call_law.specs.TrueAnswers.{word_of}
use Rattle.papaya_call_alone.specs.Chunks.{WillCopyIn, chunks_of}
use Rattle.papaya_call_alone.specs.Resizers.{IsStageRead}
use Rattle.papaya_call_alone.proofs.ChunkCounts.{chunks_rounded, copies_fewer, copies_leave, stage_copies}
use Rattle.papaya_call_alone.proofs.chunks.alone_chunks.Goals as goal

pub returns-clause-goes_on : goal.returns-clause-goes_on
returns-clause-goes_on g c = λ h d hashed s m keeps bounded resizer loaded r made read from to slots due will answer es loaded' told.
    let as_moded = subst (λ y. IsModeOf y h.blocking) will.mode r.mode in
    let as_cut = subst (λ y. IsCutAs y h.chunk_of) will.mode r.cut in
    let as_read = subst (λ y. IsStageRead (Incremental slots) (word_of h d s) y resizer.state) will.resize
    (subst (λ y. IsStageRead y (word_of h d s) resizer.resize resizer.state) will.mode read) in
    let leads = stage_copies h d hashed s m keeps bounded slots resizer.initial resizer.number loaded as_moded as_cut from to due resizer.state
    r.stage made as_read will.stage answer es loaded' told in
    record {
      mode = will.mode;
      resize = will.resize;
      stage = subst (λ y. WillCopyIn (word_of h d (run es s)) from to (chunks_of (h.size from) slots) due
          (after_in y resizer.mode resizer.initial resizer.number answer resizer.state)) (sym will.resize)
          (subst (λ y. WillCopyIn (word_of h d (run es s)) from to (chunks_of (h.size from) slots) due
          (after_in Chunk y resizer.initial resizer.number answer resizer.state)) (sym will.mode) leads);
    }

pub returns-clause-rounded_up : goal.returns-clause-rounded_up
returns-clause-rounded_up g c = λ len slots full some. chunks_rounded len slots full some

pub returns-clause-fewer : goal.returns-clause-fewer
returns-clause-fewer g c = λ left copies some all. copies_fewer left copies some all

pub returns-clause-at_most : goal.returns-clause-at_most
returns-clause-at_most g c = λ words size from to slots copies all. copies_leave words from to (chunks_of (size from) slots) copies (omega arith) all
