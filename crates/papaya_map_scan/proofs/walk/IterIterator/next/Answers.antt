use Rattle.std.proofs.Common.{◌≡◌, ◌<◌, ◌-◌, List, length, refl, sym, ap, ◌∙◌, subst, arith}
use mathlib.Core.List.{IsPrefix}
use denote.Bor.{Bor}
use Rattle.papaya_map_book.specs.declared.book.Book.{Book}
use Rattle.papaya_map_book.specs.Hashes.{hash_of}
use Rattle.papaya_map_book.specs.Parts.{begun_of}
use Rattle.papaya_map_book.specs.Rule.{IsLawfulLog}
use Rattle.papaya_map_book.proofs.Windows.{sees_of}
use Rattle.papaya_map_book.proofs.Logs.{prefix_trans}
use Rattle.papaya_map_lookup.specs.History.{history_of}
use Rattle.papaya_map_lookup.proofs.Histories.{history_legal, history_since}
use Rattle.papaya_map_scan.specs.Taking as taking
use Rattle.papaya_map_scan.specs.Walked.{AreLast, ArePassed, Gives, Walked, with_found}
use Rattle.papaya_map_scan.proofs.TableScans.{gives_next}
use Rattle.papaya_map_scan.proofs.Taken.{taken_later}
use Rattle.papaya_map_scan.proofs.Walking.{over_leaves}
use Rattle.papaya_map_scan.proofs.walk.IterIterator.next.Goals as goal

pub next_pair-at-requires : goal.next_pair-at-requires
next_pair-at-requires g c =
    let i = c.self.inside in
    record { slots = subst (λ (z : _). AreLast z.log i.number (length i.slots.now) i.slots.now) (sym c.new-window.ensures.sight) c.self.invariant.2.last }

pub invariant_of-self : goal.invariant_of-self
invariant_of-self g c =
    let i = c.self.inside in let w = c.next_pair-at.new.window in
    let since = subst (λ (z : _). IsPrefix z.log w.sight.log) c.new-window.ensures.sight c.next_pair-at.ensures.sees.log in (
      c.self.invariant.0,
      sees_of c.new-window.result w c.next_pair-at.ensures.sees ∙ (ap (λ (z : _). z.book) c.new-window.ensures.sight ∙ c.self.invariant.1),
      record {
        since = prefix_trans i.began.log i.sight.log w.sight.log c.self.invariant.2.since since;
        last = c.next_pair-at.ensures.slots;
        taken = λ some. taken_later (begun_of i.book.now.parts) i.began.log i.sight.log w.sight.log i.number
            (c.self.invariant.2.taken some) since;
        passed = subst (λ (entries : List (_ × _)). ArePassed g.K.PartialEq.eq (begun_of i.book.now.parts) i.began.log w.sight.log i.number
            c.next_pair-at.result.0 (length i.slots.now) entries) (sym c.with.ensures)
            (subst (λ (z : Bor (Book _ _ _ _)). ArePassed g.K.PartialEq.eq (begun_of z.now.parts) i.began.log w.sight.log i.number
            c.next_pair-at.result.0 (length i.slots.now) (with_found i.yielded.entries c.next_pair-at.result.1)) c.new-window.ensures.book
            (c.next_pair-at.ensures.passed i.began.log i.yielded.entries
            (subst (λ (z : Bor (Book _ _ _ _)). ArePassed g.K.PartialEq.eq (begun_of z.now.parts) i.began.log c.new-window.result.sight.log i.number
            i.at (length i.slots.now) i.yielded.entries) (sym c.new-window.ensures.book)
            (subst (λ (z : _). ArePassed g.K.PartialEq.eq (begun_of i.book.now.parts) i.began.log z.log i.number i.at (length i.slots.now)
            i.yielded.entries) (sym c.new-window.ensures.sight) c.self.invariant.2.passed))));
      },
    )

pub returns-clause-steps : goal.returns-clause-steps
returns-clause-steps g c =
    let i = c.self.inside in let w = c.next_pair-at.new.window in
    let since = subst (λ (z : _). IsPrefix z.log w.sight.log) c.new-window.ensures.sight c.next_pair-at.ensures.sees.log in
    let seen = c.new-window.result.sight.log in
    let taken : 0 < length i.slots.now → taking.IsTaken (begun_of c.new-window.result.book.now.parts) i.began.log seen i.number = λ some.
    subst (λ (z : Bor (Book _ _ _ _)). taking.IsTaken (begun_of z.now.parts) i.began.log seen i.number) (sym c.new-window.ensures.book)
    (subst (λ (z : _). taking.IsTaken (begun_of i.book.now.parts) i.began.log z.log i.number) (sym c.new-window.ensures.sight)
    (c.self.invariant.2.taken some)) in
    let hash = hash_of g.K.Hash.hash_input g.S.BuildHasher.build_hasher g.S.Hasher.Hasher.write g.S.Hasher.Hasher.finish in
    let before : Walked _ _ = record {
      book = i.book.now.begun.book;
      began = history_of i.began.log;
      history = history_of i.sight.log;
      given = i.yielded.entries;
      left = length i.slots.now - i.at;
    } in
    let after : Walked _ _ = record {
      book = i.book.now.begun.book;
      began = history_of i.began.log;
      history = history_of w.sight.log;
      given = c.with.result.entries;
      left = length i.slots.now - c.next_pair-at.result.0;
    } in
    let passed = subst (λ (entries : List (_ × _)). ArePassed g.K.PartialEq.eq (begun_of i.book.now.parts) i.began.log w.sight.log i.number
    c.next_pair-at.result.0 (length i.slots.now) entries) (sym c.with.ensures)
    (subst (λ (z : Bor (Book _ _ _ _)). ArePassed g.K.PartialEq.eq (begun_of z.now.parts) i.began.log w.sight.log i.number
    c.next_pair-at.result.0 (length i.slots.now) (with_found i.yielded.entries c.next_pair-at.result.1)) c.new-window.ensures.book
    (c.next_pair-at.ensures.passed i.began.log i.yielded.entries
    (subst (λ (z : Bor (Book _ _ _ _)). ArePassed g.K.PartialEq.eq (begun_of z.now.parts) i.began.log c.new-window.result.sight.log i.number
    i.at (length i.slots.now) i.yielded.entries) (sym c.new-window.ensures.book)
    (subst (λ (z : _). ArePassed g.K.PartialEq.eq (begun_of i.book.now.parts) i.began.log z.log i.number i.at (length i.slots.now)
    i.yielded.entries) (sym c.new-window.ensures.sight) c.self.invariant.2.passed)))) in
    subst (λ (z : Walked _ _). Gives g.K.PartialEq.eq z c.next_pair-at.result.1 after) c.self.view_is
    (gives_next g.K.PartialEq.eq before after (record { book = refl; began = refl; since = history_since i.sight.log w.sight.log since })
    (IsLawfulLog g.K.PartialEq.eq hash (begun_of w.book.now.parts) w.sight.log)
    (history_legal g.K.PartialEq.eq g.K.Hash.hash_input g.S.BuildHasher.build_hasher g.S.Hasher.Hasher.write g.S.Hasher.Hasher.finish g.met.K.Eq.laws
    g.met.K.Hash.respects_eq (begun_of w.book.now.parts) w.sight.log)
    c.next_pair-at.result.1 c.with.ensures c.next_pair-at.ensures.lawful (c.next_pair-at.ensures.had i.began.log taken)
    (over_leaves g.K.PartialEq.eq (begun_of i.book.now.parts) i.began.log w.sight.log i.number c.next_pair-at.result.0 (length i.slots.now) c.with.result.entries
    c.next_pair-at.result.1 c.next_pair-at.ensures.over passed))
