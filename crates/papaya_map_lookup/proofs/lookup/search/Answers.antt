use Rattle.std.proofs.Common.{◌<◌, refl, sym, ◌∙◌, subst, arith}
use Rattle.papaya_call.specs.declared.machine.State.TheVariants.{Searching}
use Rattle.papaya_call.specs.declared.search.Search.TheVariants.{Looking}
use Rattle.papaya_map_book.proofs.Windows.{observed, observes_trans, sees_trans}
use Rattle.papaya_map_lookup.specs.Lookups.{next_stage, left_of}
use Rattle.papaya_map_lookup.proofs.lookup.search.Goals as goal

pub probe_at-requires-clause-within : goal.probe_at-requires-clause-within
probe_at-requires-clause-within g c = let r = c.requires.reads in (c.loop-next.invariant.0 r.0 r.1).within c.loop-next.place refl

pub probe_at-requires-clause-reads : goal.probe_at-requires-clause-reads
probe_at-requires-clause-reads g c =
    let r = c.requires.reads in let t = c.loop-next.invariant.0 r.0 r.1 in
    (r.0, (t.lent, t.lent_is, t.pair, t.reading))

pub loop-next-preserved : goal.loop-next-preserved
loop-next-preserved g c =
    let looked = c.probe_at.ensures in let inv = c.loop-next.invariant in
    let less = subst (λ z. left_of (next_stage c.loop-next.window.book.now.parts.mode 0 z) < left_of (Searching (Looking c.loop-next.place))) c.in-Next.is
    looked.fewer in
    let most = inv.1 in (
      λ began reading. let t = inv.0 began reading in rw (sym c.in-Next.is) (looked.leads began (t.lent, t.lent_is, t.pair, t.reading)),
      omega (arith, less, most),
      sees_trans _ _ _ inv.2 (observed looked.sees),
      looked.sees.own ∙ inv.3,
    )

pub returns-in_default : goal.returns-in_default
returns-in_default g c =
    let looked = c.probe_at.ensures in let inv = c.loop-next.invariant in
    let less = subst (λ (z : _). left_of (next_stage z.now.parts.mode 0 c.probe_at.result) < left_of (Searching (Looking c.loop-next.place))) inv.2.book
    looked.fewer in
    let most = inv.1 in
    record {
      sees = observes_trans _ _ _ (record { book = inv.2.book; log = inv.2.log; own = inv.3 }) looked.sees;
      leads = λ began reading. let t = inv.0 began reading in looked.leads began (t.lent, t.lent_is, t.pair, t.reading);
      over = c.in_default.not-Next;
      fewer = omega (arith, less, most);
    }
