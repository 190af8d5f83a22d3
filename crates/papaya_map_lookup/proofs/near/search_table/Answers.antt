use Rattle.std.proofs.Common.{◌≡◌, ℕ, ◌+◌, ◌-◌, ◌%◌, nat_lt, true, sym, subst, arith, rules}
use Rattle.std.specs.Int.{IsPowerOfTwo}
use Rattle.std.proofs.lemmas.Bool.{ltb-true}
use Rattle.papaya_call.specs.Search.{IsWithin, next_place}
use Rattle.papaya_call_law.proofs.Standing.{next_within}
use Rattle.papaya_map_lookup.proofs.Nearing.{went_on}
use Rattle.papaya_map_lookup.proofs.near.search_table.Goals as goal

pub returns-in_default : goal.returns-in_default
returns-in_default g c =
    let looked = c.probe_place.ensures in
    record {
      sees = looked.sees;
      ends = c.in_default.not-On;
      near = λ began reading. (c.args.at, looked.near began reading);
    }

pub overflow_sub-at : goal.overflow_sub-at
overflow_sub-at g c = let i = c.requires.within.i in omega (arith, i)

pub next-requires-clause-mask : goal.next-requires-clause-mask
next-requires-clause-mask g c = let most = c.requires.within.size.most in omega (arith, most)

pub search_slots-requires-clause-within : goal.search_slots-requires-clause-within
search_slots-requires-clause-within g c =
    let at = c.args.at in let within = c.requires.within in let i = within.i in
    let more : nat_lt at.probe.len at.limit ≡ true = search rules in
    let slots : at.len - 1 + 1 ≡ at.len = omega (arith, i) in
    let next : c.next.new.self.i ≡ (at.probe.i + at.probe.len + 1) % at.len = subst
    (λ (n : ℕ). IsPowerOfTwo n → c.next.new.self.i ≡ (at.probe.i + at.probe.len + 1) % n) slots c.next.ensures.place within.size.power in
    let is : record at { probe = c.next.new.self } ≡ next_place at = search (rules, next) in
    subst IsWithin (sym is) (next_within at within (ltb-true at.probe.len at.limit more))

pub search_slots-requires-clause-reads : goal.search_slots-requires-clause-reads
search_slots-requires-clause-reads g c =
    let at = c.args.at in let within = c.requires.within in let i = within.i in
    let more : nat_lt at.probe.len at.limit ≡ true = search rules in
    let slots : at.len - 1 + 1 ≡ at.len = omega (arith, i) in
    let next : c.next.new.self.i ≡ (at.probe.i + at.probe.len + 1) % at.len = subst
    (λ (n : ℕ). IsPowerOfTwo n → c.next.new.self.i ≡ (at.probe.i + at.probe.len + 1) % n) slots c.next.ensures.place within.size.power in
    let is : record at { probe = c.next.new.self } ≡ next_place at = search (rules, next) in
    let r = c.requires.reads in
    let t = went_on _ at _ c.probe_place.result c.in-On.is more is (c.probe_place.ensures.near r.0 r.1) in
    (r.0, (t.lent, t.lent_is, t.pair, t.reading))

pub returns-clause-near : goal.returns-clause-near
returns-clause-near g c = λ began reading.
    let at = c.args.at in let within = c.requires.within in let i = within.i in
    let more : nat_lt at.probe.len at.limit ≡ true = search rules in
    let slots : at.len - 1 + 1 ≡ at.len = omega (arith, i) in
    let next : c.next.new.self.i ≡ (at.probe.i + at.probe.len + 1) % at.len = subst
    (λ (n : ℕ). IsPowerOfTwo n → c.next.new.self.i ≡ (at.probe.i + at.probe.len + 1) % n) slots c.next.ensures.place within.size.power in
    let is : record at { probe = c.next.new.self } ≡ next_place at = search (rules, next) in
    let t = went_on _ at _ c.probe_place.result c.in-On.is more is (c.probe_place.ensures.near began reading) in
    c.search_slots.ensures.near began (t.lent, t.lent_is, t.pair, t.reading)
