-- The facts that a call relies on stay true, whatever others exchange and whichever tables are
-- made.
use Rattle.std.proofs.Common.{◌≡◌, inl, inr, ℕ, ◌<◌, List, ◌++◌, append_assoc, sym, ap, ◌∙◌, subst}
use Rattle.papaya_call.specs.declared.chain.machine.Machine.{Machine}
use Rattle.papaya_call.specs.declared.chain.machine.Phase.{Phase}
use Rattle.papaya_call.specs.declared.chain.machine.Phase.TheVariants.{Calling, Linking, Copying}
use Rattle.papaya_call.specs.ChainMachine.{aim_for}
use Rattle.papaya_words_law.specs.Allows.{AllAllowed}
use Rattle.papaya_words_law.specs.Class.{IsOn}
use Rattle.papaya_words_law.specs.Code.{Coding, IsHashed}
use Rattle.papaya_words_law.specs.Exchange.{Setting, State, Exchange, run, start}
use Rattle.papaya_words_law.specs.Grows.{Agrees}
use Rattle.papaya_words_law.specs.Invariant.{IsKeeping}
use Rattle.papaya_words_law.specs.Later.{IsLater}
use Rattle.papaya_words_law.specs.Meaning.{map_left}
use Rattle.papaya_words_law.proofs.Chain.{next_zero}
use Rattle.papaya_words_law.proofs.Grows.{on_run}
use Rattle.papaya_words_law.proofs.Later.{later_run}
use Rattle.papaya_words_law.proofs.Moments.{allowed_first, allowed_rest, run-append}
use Rattle.papaya_words_law.proofs.OneMap.{keeping, keeping_sound}
use Rattle.papaya_call_law.specs.Copier.{aim_of}
use Rattle.papaya_call_law.proofs.CopierStable.{copying_stable, link_stable}
use Rattle.papaya_call_law.proofs.CopierTables.{copying_carries, link_carries}
use Rattle.papaya_call_law.proofs.ReliesStable.{relies_stable}
use Rattle.papaya_call_law.proofs.ReliesTables.{relies_carries}
use Rattle.papaya_call_law.specs.ChainRelies.{Relies, ReliesPhase, now}
use Rattle.papaya_call_law.specs.ChainAnswers.{LoadedPairs}

module _ {K P : Type 0} (g : Setting K P) (c : Coding K P) (hashed : IsHashed g c) (begun since es : List (Exchange P))
    (may : AllAllowed g start (begun ++ (since ++ es))) (k : K) where
  -- the exchanges in two lists, the earlier ones and those since then
  split : (begun ++ since) ++ es ≡ begun ++ (since ++ es)
  split = append_assoc begun since es

  may_split : AllAllowed g start ((begun ++ since) ++ es)
  may_split = subst (AllAllowed g start) (sym split) may

  -- the state before, and after all of them
  abbrev before : State P
  before = now g c begun since k

  reaches : run es before ≡ now g c begun (since ++ es) k
  reaches = sym (run-append (begun ++ since) es start) ∙ ap (λ l. run l start) split

  -- the earlier exchanges were allowed
  first : AllAllowed g start (begun ++ since)
  first = allowed_first g (begun ++ since) es start may_split

  -- and those since then
  then_es : AllAllowed g before es
  then_es = allowed_rest g (begun ++ since) es start may_split

  keeps : IsKeeping g before (map_left g (begun ++ since))
  keeps = keeping g hashed.lawful (begun ++ since) first

  -- the words are later
  later_words : IsLater g before (now g c begun (since ++ es) k)
  later_words = subst (IsLater g before) reaches (later_run g hashed.lawful es before then_es)

  -- a table on the chain stays there
  on_stable : (t : ℕ) → IsOn before.first before.next t → IsOn (now g c begun (since ++ es) k).first (now g c begun (since ++ es) k).next t
  on_stable t on = subst (λ s. IsOn s.first s.next t) reaches (on_run g hashed.lawful es before (map_left g (begun ++ since)) keeps then_es t on)

  no_first : before.next 0 ≡ 0
  no_first = next_zero before.next (keeping_sound g before (map_left g (begun ++ since)) keeps).rises

  -- so is a next table
  pub next_stable : (t : ℕ) → 0 < before.next t → (now g c begun (since ++ es) k).next t ≡ before.next t
  next_stable = later_words.next

  -- the making of a table, or a copy
  phase_stable : (m : Machine) (loaded : LoadedPairs P) (phase : Phase) → ReliesPhase g c begun since k m loaded phase
      → ReliesPhase g c begun (since ++ es) k m loaded phase
  phase_stable m loaded Calling r = tt
  phase_stable m loaded (Linking link) r = record {
    mode = r.mode;
    changes = r.changes;
    left = r.left;
    relies = link_stable g c hashed before (now g c begun (since ++ es) k) no_first later_words on_stable loaded.call.last loaded.kept link r.relies;
  }
  phase_stable m loaded (Copying copying) (inr r) = inr (record {
    mode = r.mode;
    changes = r.changes;
    table = r.table;
    left = r.left;
    met = r.met;
    aim = r.aim;
    relies = copying_stable g c hashed before (now g c begun (since ++ es) k) no_first later_words on_stable loaded.call.last loaded.kept copying r.relies;
  })
  phase_stable m loaded (Copying copying) (inl r) =
      let same : (now g c begun (since ++ es) k).next r.table ≡ before.next r.table = later_words.next r.table r.next in
      inl (record {
        mode = r.mode;
        changes = r.changes;
        table = r.table;
        left = r.left;
        next = subst (λ n. 0 < n) (sym same) r.next;
        aim = subst (λ n. aim_of copying ≡ aim_for m.call.state n) (sym same) r.aim;
        relies = copying_stable g c hashed before (now g c begun (since ++ es) k) no_first later_words on_stable loaded.call.last loaded.kept copying r.relies;
      })

  -- all that it relies on
  pub all_stable : (m : Machine) (loaded : LoadedPairs P) → Relies g c begun since k m loaded → Relies g c begun (since ++ es) k m loaded
  all_stable m loaded r = record {
    cut = r.cut;
    call = relies_stable g c hashed begun since es may k m.call loaded.call r.call;
    phase = phase_stable m loaded m.phase r.phase;
  }

module _ {K P : Type 0} (g g' : Setting K P) (c : Coding K P) (hashed : IsHashed g c) (begun since : List (Exchange P))
    (may : AllAllowed g start (begun ++ since))
    (agrees : Agrees (IsOn (run (begun ++ since) start).first (run (begun ++ since) start).next) g g') (k : K) where
  keeps_now : IsKeeping g (now g c begun since k) (map_left g (begun ++ since))
  keeps_now = keeping g hashed.lawful (begun ++ since) may

  -- the making of a table, or a copy, in the further setting
  phase_carries : (m : Machine) (loaded : LoadedPairs P) (phase : Phase) → ReliesPhase g c begun since k m loaded phase
      → ReliesPhase g' c begun since k m loaded phase
  phase_carries m loaded Calling r = tt
  phase_carries m loaded (Linking link) r = record {
    mode = agrees.blocking ∙ r.mode;
    changes = r.changes;
    left = r.left;
    relies = link_carries g g' c (now g c begun since k) (keeping_sound g (now g c begun since k) (map_left g (begun ++ since)) keeps_now) agrees
        loaded.call.last loaded.kept link r.relies;
  }
  phase_carries m loaded (Copying copying) (inl r) = inl (record {
    mode = agrees.blocking ∙ r.mode;
    changes = r.changes;
    table = r.table;
    left = r.left;
    next = r.next;
    aim = r.aim;
    relies = copying_carries g g' c (now g c begun since k) (keeping_sound g (now g c begun since k) (map_left g (begun ++ since)) keeps_now) agrees
        loaded.call.last loaded.kept copying r.relies;
  })
  phase_carries m loaded (Copying copying) (inr r) = inr (record {
    mode = agrees.blocking ∙ r.mode;
    changes = r.changes;
    table = r.table;
    left = r.left;
    met = r.met;
    aim = r.aim;
    relies = copying_carries g g' c (now g c begun since k) (keeping_sound g (now g c begun since k) (map_left g (begun ++ since)) keeps_now) agrees
        loaded.call.last loaded.kept copying r.relies;
  })

  pub all_carries : (m : Machine) (loaded : LoadedPairs P) → Relies g c begun since k m loaded → Relies g' c begun since k m loaded
  all_carries m loaded r = record {
    cut = λ x. agrees.chunk_of x ∙ r.cut x;
    call = relies_carries g g' c hashed begun since may k agrees m.call loaded.call r.call;
    phase = phase_carries m loaded m.phase r.phase;
  }
