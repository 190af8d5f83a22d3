use Rattle.std.proofs.Common.{rules, ◌≡◌, Some, length, sym, ◌∙◌, ap, subst}
use Rattle.papaya_call.specs.declared.ask.Answer.TheVariants.{Size}
use Rattle.papaya_call.specs.Search.{first_place}
use Rattle.papaya_core_store.specs.Performs.{size_of}
use Rattle.papaya_core_store.specs.Tables.{table_of}
use Rattle.papaya_seq.specs.Searches.{IsRootHit, IsThere, IsProbeHit, seen_by}
use Rattle.papaya_seq.specs.declared.search.ProbeHit.{ProbeHit}
use Rattle.papaya_seq.proofs.Searching.{sees_root}
use Rattle.papaya_seq.proofs.search.search_root.Goals as goal

pub returns : goal.returns
returns g c =
    let matches = g.Q.Equivalent.matches c.args.key.now in
    let store = c.args.store.now in
    let t = c.in_ok-table.table.now in
    let held : table_of store.words.tables c.word-number.result ≡ Some t = search rules in
    let size : size_of (table_of store.words.tables store.words.root) ≡ Size (length t.slots) t.limit = ap
    (λ n. size_of (table_of store.words.tables n)) (sym c.word-number.ensures) ∙ ap size_of held in
    let first : c.first-first.result ≡ first_place c.args.hash store.words.root (length t.slots) t.limit = c.first-first.ensures.value
    ∙ ap (λ n. first_place c.args.hash n c.len.result c.limit.result) c.word-number.ensures
    ∙ ap (λ n. first_place c.args.hash store.words.root n c.limit.result) c.len.ensures
    ∙ ap (first_place c.args.hash store.words.root (length t.slots)) c.limit.ensures in
    let by : IsProbeHit matches store c.args.hash (first_place c.args.hash store.words.root (length t.slots) t.limit)
    c.search.result = subst (λ p. IsProbeHit matches store c.args.hash p c.search.result) first c.search.ensures.turn in
    record {
      turn = λ turn e.
          let is : c.search.result ≡ turn = cc e in
          subst (λ (x : ProbeHit). IsRootHit matches store c.args.hash x) is
          (record {
            sees = sees_root matches store c.args.hash (length t.slots) t.limit size (seen_by c.search.result) by.sees;
            stands = by.stands;
            matched = by.matched;
          });
      over = λ place e. c.search.ensures.over place cc;
      none = λ e. absurd cc;
    }

pub search-requires-clause-there : goal.search-requires-clause-there
search-requires-clause-there g c =
    let held : table_of c.args.store.now.words.tables c.word-number.result ≡ Some c.in_ok-table.table.now = search rules in
    subst (λ at. IsThere c.args.store.now at.table at.len) (sym c.first-first.ensures.value) (c.in_ok-table.table.now, held, sym c.len.ensures)
