use Rattle.std.proofs.Common.{◌≡◌, ℕ, ◌+◌, ◌-◌, ◌%◌, nat_lt, true, refl, ◌∙◌, subst, arith, rules}
use Rattle.std.specs.Int.{IsPowerOfTwo}
use Rattle.papaya_call.specs.Search.{next_place}
use Rattle.papaya_map_book.proofs.Logs.{prefix_trans}
use Rattle.papaya_map_lookup.proofs.Nearing.{went_on}
use Rattle.papaya_map_lookup.proofs.near.search_slots.Goals as goal

pub probe_place-requires-clause-within : goal.probe_place-requires-clause-within
probe_place-requires-clause-within g c = let r = c.requires.reads in (c.loop-turned.invariant.0 r.0 r.1).within c.loop-turned.place refl

pub probe_place-requires-clause-reads : goal.probe_place-requires-clause-reads
probe_place-requires-clause-reads g c =
    let r = c.requires.reads in let t = c.loop-turned.invariant.0 r.0 r.1 in (r.0, (t.lent, t.lent_is, t.pair, t.reading))

pub overflow_sub-place : goal.overflow_sub-place
overflow_sub-place g c = let r = c.requires.reads in let i = ((c.loop-turned.invariant.0 r.0 r.1).within c.loop-turned.place refl).i in omega (arith, i)

pub next-requires-clause-mask : goal.next-requires-clause-mask
next-requires-clause-mask g c =
    let r = c.requires.reads in let most = ((c.loop-turned.invariant.0 r.0 r.1).within c.loop-turned.place refl).size.most in omega (arith, most)

pub loop-turned-preserved : goal.loop-turned-preserved
loop-turned-preserved g c =
    let r = c.requires.reads in let t = c.loop-turned.invariant.0 r.0 r.1 in let seen = c.loop-turned.invariant.2 in let looked = c.probe_place.ensures in
    let at = c.loop-turned.place in let within = t.within at refl in let i = within.i in
    let more : nat_lt at.probe.len at.limit ≡ true = search rules in
    let slots : at.len - 1 + 1 ≡ at.len = omega (arith, i) in
    let next : c.next.new.self.i ≡ (at.probe.i + at.probe.len + 1) % at.len = subst
    (λ (n : ℕ). IsPowerOfTwo n → c.next.new.self.i ≡ (at.probe.i + at.probe.len + 1) % n) slots c.next.ensures.place within.size.power in
    let is : record at { probe = c.next.new.self } ≡ next_place at = search (rules, next) in (
      λ began reading. let u = c.loop-turned.invariant.0 began reading in
          went_on _ at _ c.probe_place.result c.in-On.is more is (looked.near began (u.lent, u.lent_is, u.pair, u.reading)),
      c.loop-turned.invariant.1,
      record { book = looked.sees.book ∙ seen.book; log = prefix_trans _ _ _ seen.log looked.sees.log },
      looked.sees.own ∙ c.loop-turned.invariant.3,
    )

pub returns-in_default : goal.returns-in_default
returns-in_default g c =
    let looked = c.probe_place.ensures in let inv = c.loop-turned.invariant in
    record {
      sees = record {
        book = looked.sees.book ∙ inv.2.book;
        log = prefix_trans _ _ _ inv.2.log looked.sees.log;
        own = looked.sees.own ∙ inv.3;
      };
      ends = c.in_default.not-On;
      near = λ began reading. let t = inv.0 began reading in
          (c.loop-turned.place, looked.near began (t.lent, t.lent_is, t.pair, t.reading));
    }
