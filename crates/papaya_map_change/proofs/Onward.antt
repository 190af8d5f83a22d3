-- An insertion that begins after a search has found no place for its key in a table.
use Rattle.std.proofs.Common.{◌≡◌, ℕ, Bool, Option, None, Some, List, [], refl, sym, ap, ◌∙◌, subst}
use denote.Bor.{Bor}
use Rattle.logbook.specs.Pages.{Book}
use Rattle.papaya_call.specs.declared.machine.State.TheVariants.{Growing}
use Rattle.papaya_call.specs.declared.need.Need.TheVariants.{Room}
use Rattle.papaya_call.specs.Made.{nothing_made}
use Rattle.papaya_call.specs.declared.chain.machine.Machine.{Machine}
use Rattle.papaya_call.specs.ChainMachine.{ask_of}
use Rattle.papaya_map_book.specs.declared.rule.entry.Begun.{Begun}
use Rattle.papaya_map_book.specs.declared.rule.entry.Event.{Event}
use Rattle.papaya_map_book.specs.Calls.{IsTable}
use Rattle.papaya_map_book.specs.Logs.{Stored}
use Rattle.papaya_map_book.specs.Sheets.{Sheet}
use Rattle.papaya_map_change.specs.declared.insertion.Insertion.{Insertion}
use Rattle.papaya_map_change.specs.Changing.{IsCalling}
use Rattle.papaya_map_change.specs.Inserting.{IsInserting}
use Rattle.papaya_map_change.specs.Seeking.{IsInsertingAt, insertion_at}
use Rattle.papaya_map_change.specs.Writing.{HasKey, HasValue, held_value}

module _ {K V S : Type 0} (eq : K → K → Bool) (hash : S → K → ℕ) (b : Begun K V S) (name : Book) (key : K) (begun log : List (Event K V S)) (n : ℕ)
    (table : Bor Sheet) (r : IsInsertingAt eq hash b name key begun log (Growing (Room n)) None table.now) where
  -- its call, in a map of any initial capacity, which has loaded no pair
  onward : (initial : ℕ) → IsCalling eq hash b name (eq key) (hash b.hasher key) (Some key) begun log
      (insertion_at (hash b.hasher key) b.mode initial (nothing_made b.limit) (Growing (Room n))) (Some table) None None [] None None None
  onward initial = let it = r.4 in let relies = it.relies in record {
    lawful = it.lawful;
    seen = it.seen;
    since = it.since;
    is = it.is;
    relies = record {
      cut = relies.cut;
      call = record {
        hash = relies.call.hash;
        mode = relies.call.mode;
        made = record {
          keys = relies.call.made.keys;
          limit = relies.call.made.limit;
          number_is = relies.call.made.number_is;
          own_is = tt;
          of_is = tt;
          fill_is = tt;
          choice_is = tt;
        };
        stage = relies.call.stage;
      };
      phase = tt;
    };
    number = it.number;
    at_table = it.at_table;
    holds_table = subst (IsTable log it.number) r.1 it.holds_table;
    last_placed = tt;
    kept_placed = tt;
    made_placed = λ q one. absurd one;
    taken_placed = tt;
    changed = λ change e. absurd (cc e);
    brings = λ n e. absurd e;
    words = λ behind n chunks e. absurd (cc e);
    counts = tt;
  }

  module _ {H : Type 0} (value : V) (x : Insertion K V S H) (initial : ℕ) (held : x.writer.call.table ≡ Some table)
      (fresh : x.writer.call.copier.fresh ≡ None) (pairs : (x.writer.call.copier.last ≡ None) × (x.writer.call.copier.kept ≡ None) × (x.writer.call.taken ≡ None)
      × (x.writer.call.put ≡ None))
      (has_key : HasKey b name key x.writer.key) (has_value : HasValue b name x.writer.value) (value_is : held_value x.writer.value ≡ Some value)
      (machine : x.writer.call.machine ≡ insertion_at (hash b.hasher key) b.mode initial (nothing_made b.limit) (Growing (Room n)))
      (own : x.own ≡ None) (of : x.of ≡ None) where
    pub begins_onward : IsInserting eq hash b name key value begun log x
    begins_onward = record {
      made = [];
      writing = record {
        calling = rw (machine, held, fresh, pairs.0, pairs.1, pairs.2, pairs.3) (onward initial);
        keyed = has_key;
        valued = has_value;
        put_placed = rw pairs.3 tt;
      };
      task_is = ap (λ (z : Machine). z.call.task) machine;
      value_is = λ v e. let f = sym value_is ∙ e in let one : value ≡ v = cc f in sym one;
      own_is = record {
        there = λ i e. let f = sym (ap (λ (z : Machine). z.call.made.own) machine) ∙ e in absurd (cc f);
        is = λ p e. let f = sym own ∙ e in absurd (cc f);
      };
      of_is = record {
        there = λ new e. let f = sym (ap (λ (z : Machine). z.call.made.of) machine) ∙ e in
            absurd (cc f);
        is = λ p e. let f = sym of ∙ e in absurd (cc f);
      };
      put_is = λ p e. let f = sym pairs.3 ∙ e in absurd (cc f);
      refuses = λ cause e. let f = sym (ap ask_of machine) ∙ e in absurd (cc f);
      crowded = λ e. let f = sym (ap ask_of machine) ∙ e in absurd (cc f);
      spent = λ e. let f = sym (ap ask_of machine) ∙ e in absurd (cc f);
    }
