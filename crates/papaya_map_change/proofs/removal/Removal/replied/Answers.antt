use Rattle.std.proofs.Common.{◌≡◌, ℕ, refl, sym, ◌∙◌, rules}
use Rattle.papaya_call.specs.declared.ask.Ask.TheVariants.{Done}
use Rattle.papaya_call.specs.declared.call.Reply.{Reply}
use Rattle.papaya_call.specs.declared.call.Reply.TheVariants.{Absent, Kept, Refused, Removed}
use Rattle.papaya_call.specs.ChainMachine.{ask_of}
use Rattle.papaya_call.specs.declared.chain.ask.Ask.TheVariants.{Call}
use Rattle.papaya_map_book.specs.Parts.{begun_of}
use Rattle.papaya_map_change.proofs.RemovingReplies.{IsNoRemoval, tells_no_other}
use Rattle.papaya_map_change.proofs.removal.Removal.replied.Goals.{in_default-via-in-Call+in-Done+in-Removed+in-Some+in_default}
use Rattle.papaya_map_change.proofs.removal.Removal.replied.Goals.{in_default-via-in-Call+in-Done+in-Removed+in_default}
use Rattle.papaya_map_change.proofs.removal.Removal.replied.Goals.{in_default-via-in-Call+in-Done+in-Kept+in_default}
use Rattle.papaya_map_change.proofs.removal.Removal.replied.Goals.{in_default-via-in-Call+in-Done+in_default}
use Rattle.papaya_map_change.proofs.removal.Removal.replied.Goals.{in_default-via-in-Call+in_default}
use Rattle.papaya_map_change.proofs.removal.Removal.replied.Goals.{in_default-via-in_default}
use Rattle.papaya_map_change.proofs.removal.Removal.replied.Goals as goal

pub agrees-requires : goal.agrees-requires
agrees-requires g c =
    let at = c.in-Call-Done-Removed-Some-Some in
    let asks : (n : ℕ) × (ask_of c.args.self.now.call.machine ≡ Call (Done (Removed n))) = search rules in
    let t = c.requires.can (Removed asks.0) asks.1 in
    let shown : t.0 ≡ at.shown = let same = sym t.2 ∙ at.is-1 in cc same in
    let taken : t.1 ≡ at.taken = let same = sym t.3 ∙ at.is-2 in cc same in
    rw (← shown, ← taken) (t.5.0, t.6.0, t.4)

pub entry-requires : goal.entry-requires
entry-requires g c =
    let at = c.in-Call-Done-Removed-Some-Some in
    let asks : (n : ℕ) × (ask_of c.args.self.now.call.machine ≡ Call (Done (Removed n))) = search rules in
    let t = c.requires.can (Removed asks.0) asks.1 in
    let taken : t.1 ≡ at.taken = let same = sym t.3 ∙ at.is-2 in cc same in
    rw (← taken) t.6

pub entry-requires-in-Call-Done-Kept-Some-default : goal.entry-requires-in-Call-Done-Kept-Some-default
entry-requires-in-Call-Done-Kept-Some-default g c =
    let at = c.in-Call-Done-Kept-Some-default in
    let asks : (n : ℕ) × (ask_of c.args.self.now.call.machine ≡ Call (Done (Kept n))) = search rules in
    let t = c.requires.can (Kept asks.0) asks.1 in
    let shown : t.0 ≡ at.shown = let same = sym t.1 ∙ at.is-1 in cc same in
    rw (← shown) t.2

pub unreachable-requires : goal.unreachable-requires
unreachable-requires g c =
    elim c.in_default.branch [
      | in_default-via-in-Call+in-Done+in-Removed+in-Some+in_default w ↦ let asks : (n : ℕ)
          × (ask_of c.args.self.now.call.machine ≡ Call (Done (Removed n))) = search rules in let t = c.requires.can (Removed asks.0) asks.1 in
          let none = sym t.3 ∙ w.in_default.is-2 in cc none
      | in_default-via-in-Call+in-Done+in-Removed+in_default w ↦ let asks : (n : ℕ)
          × (ask_of c.args.self.now.call.machine ≡ Call (Done (Removed n))) = search rules in let t = c.requires.can (Removed asks.0) asks.1 in
          let none = sym t.2 ∙ w.in_default.is-1 in cc none
      | in_default-via-in-Call+in-Done+in-Kept+in_default w ↦ let asks : (n : ℕ)
          × (ask_of c.args.self.now.call.machine ≡ Call (Done (Kept n))) = search rules in let t = c.requires.can (Kept asks.0) asks.1 in
          let none = sym t.1 ∙ w.in_default.is-1 in cc none
      | in_default-via-in-Call+in-Done+in_default w ↦ let asks : (reply : Reply) × IsNoRemoval reply
          × (ask_of c.args.self.now.call.machine ≡ Call (Done reply)) = search rules in
          tells_no_other (begun_of c.args.window.now.book.now.parts) c.args.window.now.book.now.begun.book c.args.self.now asks.0 asks.1
          (c.requires.can asks.0 asks.2)
      | in_default-via-in-Call+in_default w ↦ let same : c.ask.result ≡ Call (Done c.requires.done.0) = c.ask.ensures.value ∙ c.requires.done.1 in search rules
      | in_default-via-in_default w ↦ let same : c.ask.result ≡ Call (Done c.requires.done.0) = c.ask.ensures.value ∙ c.requires.done.1 in search rules
    ]

pub returns-in-Call-Done-Removed-Some-Some : goal.returns-in-Call-Done-Removed-Some-Some
returns-in-Call-Done-Removed-Some-Some g c =
    let at = c.in-Call-Done-Removed-Some-Some in
    let asks : (n : ℕ) × (ask_of c.args.self.now.call.machine ≡ Call (Done (Removed n))) = search rules in
    record { tells = (Removed asks.0, asks.1, (at.shown, at.taken, c.entry.result, at.is-1, at.is-2, c.agrees.ensures, c.entry.ensures, refl)) }

pub returns-in-Call-Done-Kept-Some-default : goal.returns-in-Call-Done-Kept-Some-default
returns-in-Call-Done-Kept-Some-default g c =
    let at = c.in-Call-Done-Kept-Some-default in
    let asks : (n : ℕ) × (ask_of c.args.self.now.call.machine ≡ Call (Done (Kept n))) = search rules in
    record {
      tells = (
        Kept asks.0,
        asks.1,
        (
          at.shown,
          c.entry-in-Call-Done-Kept-Some-default.result,
          at.is-1,
          c.entry-in-Call-Done-Kept-Some-default.ensures,
          refl,
        ),
      );
    }

pub returns-in-Call-Done-Absent-default-default : goal.returns-in-Call-Done-Absent-default-default
returns-in-Call-Done-Absent-default-default g c =
    let asks : ask_of c.args.self.now.call.machine ≡ Call (Done Absent) = search rules in
    record { tells = (Absent, asks, refl) }

pub returns-in-Call-Done-Refused-default-default : goal.returns-in-Call-Done-Refused-default-default
returns-in-Call-Done-Refused-default-default g c =
    let asks : ask_of c.args.self.now.call.machine ≡ Call (Done (Refused c.in-Call-Done-Refused-default-default.refused)) = search rules in
    record { tells = (Refused c.in-Call-Done-Refused-default-default.refused, asks, refl) }
