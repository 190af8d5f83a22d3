-- The chunk at which a call begins to copy makes no difference to the facts that it relies on.
use Rattle.std.proofs.Common.{◌≡◌, inl, inr, ℕ, Bool, Option, Some, List, refl}
use denote.Bor.{Bor}
use Rattle.logbook.specs.Pages.{Book}
use Rattle.logbook.specs.declared.tokens.Pen.{Pen}
use Rattle.boxcar.specs.Table.{Where}
use Rattle.papaya_call.specs.declared.chain.machine.Machine.{Machine}
use Rattle.papaya_call.specs.declared.chain.machine.Phase.{Phase}
use Rattle.papaya_call.specs.declared.chain.machine.Phase.TheVariants.{Calling, Linking, Copying as Copying_root}
use Rattle.papaya_call.specs.ChainMachine.{IsValid}
use Rattle.papaya_call_law.specs.ChainRelies.{Relies, ReliesPhase, left_by}
use Rattle.papaya_call_law.specs.ChainAnswers.{LoadedPairs}
use Rattle.papaya_words_law.specs.Code.{Coding}
use Rattle.papaya_words_law.specs.Exchange.{Exchange, Setting}
use Rattle.papaya_map_book.specs.declared.rule.entry.Begun.{Begun}
use Rattle.papaya_map_book.specs.declared.rule.entry.Event.{Event}
use Rattle.papaya_map_book.specs.Logs.{Stored, exchanges_of}
use Rattle.papaya_map_book.specs.Sheets.{Sheet}
use Rattle.papaya_map_change.specs.declared.driver.Driver.{Driver}
use Rattle.papaya_map_lookup.specs.Lookups.{coding_for, setting_for}
use Rattle.papaya_map_change.specs.Changing.{CanGoOn, Continues, IsCalling, loaded_with}
use Rattle.papaya_map_change.specs.Helping.{IsAside}

-- the machine, with another number
abbrev pub with_number : Machine → ℕ → Machine
with_number m n = record m { number = n }

pub stands_numbered : (m : Machine) (n : ℕ) → IsValid m → IsValid (with_number m n)
stands_numbered m n s = record { call = s.call; chunked = s.chunked; initial = s.initial; phase = s.phase }

module _ {K P : Type 0} (g : Setting K P) (c : Coding K P) (begun since : List (Exchange P)) (k : K) (m : Machine) (loaded : LoadedPairs P) (n : ℕ) where
  phase_numbered : (phase : Phase) → ReliesPhase g c begun since k m loaded phase → ReliesPhase g c begun since k (with_number m n) loaded phase
  phase_numbered Calling at = tt
  phase_numbered (Linking link) at = record { mode = at.mode; changes = at.changes; left = at.left; relies = at.relies }
  phase_numbered (Copying_root copying) (inl at) = inl
      (record { mode = at.mode; changes = at.changes; table = at.table; left = at.left; next = at.next; aim = at.aim; relies = at.relies })
  phase_numbered (Copying_root copying) (inr at) = inr
      (record { mode = at.mode; changes = at.changes; table = at.table; left = at.left; met = at.met; aim = at.aim; relies = at.relies })

  relies_numbered : Relies g c begun since k m loaded → Relies g c begun since k (with_number m n) loaded
  relies_numbered r = record { cut = r.cut; call = r.call; phase = phase_numbered m.phase r.phase }

  -- a call that was set aside had come to a table
  left_in : (phase : Phase) → ReliesPhase g c begun since k m loaded phase → (phase ≡ Calling → ⊥) → (t : ℕ) × (left_by m.call.state ≡ Some t)
  left_in Calling at aside = absurd (aside refl)
  left_in (Linking link) at aside = (Rattle.papaya_call.specs.Link.follows link, at.left)
  left_in (Copying_root copying) (inl at) aside = (at.table, at.left)
  left_in (Copying_root copying) (inr at) aside = (at.table, at.left)

module _ {K V S : Type 0} (eq : K → K → Bool) (hash : S → K → ℕ) (b : Begun K V S) (name : Book) where
  module _ (matches : K → Bool) (fed : ℕ) (k : Option K) (begun log : List (Event K V S)) (m : Machine) (table : Option (Bor Sheet))
      (last kept : Option (Stored K V)) (made : List (Stored K V)) (taken put : Option (Stored K V)) (fresh : Option (Where Sheet × Pen))
      (r : IsCalling eq hash b name matches fed k begun log m table last kept made taken put fresh) (n : ℕ) where
    calling_numbered : IsCalling eq hash b name matches fed k begun log (with_number m n) table last kept made taken put fresh
    calling_numbered = record {
      lawful = r.lawful;
      seen = r.seen;
      since = r.since;
      is = r.is;
      relies = relies_numbered (setting_for eq hash b matches fed log) (coding_for hash b.hasher fed) (exchanges_of begun) r.since k m
          (loaded_with last kept made) n r.relies;
      number = r.number;
      at_table = r.at_table;
      holds_table = r.holds_table;
      last_placed = r.last_placed;
      kept_placed = r.kept_placed;
      made_placed = r.made_placed;
      taken_placed = r.taken_placed;
      changed = r.changed;
      brings = r.brings;
      words = r.words;
      counts = r.counts;
    }

  module _ {H : Type 0} (log : List (Event K V S)) (c : Driver K V S H) (n : ℕ) where
    -- so it continues with any
    pub goes_numbered : Continues eq hash b name log c log (record c { machine = with_number c.machine n })
    goes_numbered = λ matches fed form k begun made r. calling_numbered matches fed k begun log c.machine c.table c.copier.last c.copier.kept made c.taken c.put c.copier.fresh r n

    -- and is set aside as before
    pub aside_numbered : CanGoOn eq hash b name log c → (c.machine.phase ≡ Calling → ⊥) → IsAside c.machine (with_number c.machine n)
    aside_numbered can aside =
        let r = can.6 in
        let left = left_in (setting_for eq hash b can.0 can.1 log) (coding_for hash b.hasher can.1) (exchanges_of can.4) r.since can.3 c.machine
        (loaded_with c.copier.last c.copier.kept can.5) n c.machine.phase r.relies.phase aside in
        record { from = left.0; left = left.1; call = refl; busy = aside }
