-- The measure of a call falls if the budget is spent or less is left.
use Rattle.std.proofs.Common.{◌≡◌, ◌⊎◌, inl, inr, ℕ, ◌+◌, ◌-◌, ◌*◌, ◌^◌, ◌<◌, ◌==◌, ◌||◌, sym, subst, arith}
use Rattle.std.proofs.lemmas.Bool.{cond_both}
use Rattle.papaya_call.specs.declared.call.Task.{Task}
use Rattle.papaya_call.specs.declared.search.Search.{Search}
use Rattle.papaya_call.specs.declared.search.Search.TheVariants.{Sizing, Looking, Reading, Comparing}
use Rattle.papaya_call.specs.Search.{IsSearching}
use Rattle.papaya_call.specs.declared.compute.Gap.TheVariants as gaps
use Rattle.papaya_call.specs.declared.compute.Purpose.{Purpose}
use Rattle.papaya_call.specs.declared.compute.Purpose.TheVariants as purposes
use Rattle.papaya_call.specs.declared.machine.State.{State}
use Rattle.papaya_call.specs.declared.machine.State.TheVariants.{AtRoot, Making, Opening, Searching}
use Rattle.papaya_call.specs.declared.machine.State.TheVariants.{Writing, Offering, Showing}
use Rattle.papaya_call.specs.declared.machine.State.TheVariants.{Pairing, Putting, Burying}
use Rattle.papaya_call.specs.declared.machine.State.TheVariants.{Counting, Noting, Uncounting}
use Rattle.papaya_call.specs.declared.machine.State.TheVariants.{Leaving, Growing, Ended}
use Rattle.papaya_call.specs.declared.made.Made.{Made}
use Rattle.papaya_call.specs.Machine.{IsValidState}
use Rattle.papaya_call.specs.declared.copy.carry.Carry.{Carry}
use Rattle.papaya_call.specs.declared.copy.carry.Carry.TheVariants as carries
use Rattle.papaya_call.specs.declared.copy.copying.Aim.{Aim}
use Rattle.papaya_call.specs.declared.copy.copying.Aim.TheVariants as aims
use Rattle.papaya_call.specs.declared.copy.copying.Copying.{Copying}
use Rattle.papaya_call.specs.declared.copy.copying.Copying.TheVariants as copyings
use Rattle.papaya_call.specs.declared.copy.settle.Settle.{Settle}
use Rattle.papaya_call.specs.declared.copy.settle.Settle.TheVariants as settles
use Rattle.papaya_call.specs.declared.copy.step.Step.{Step}
use Rattle.papaya_call.specs.declared.copy.step.Step.TheVariants as steps
use Rattle.papaya_call.specs.Carry.{IsValidCarry}
use Rattle.papaya_call.specs.Copying.{IsValidCopying}
use Rattle.papaya_call.specs.Settle.{IsValidSettle}
use Rattle.papaya_call.specs.Step.{IsValidStep}
use Rattle.papaya_call.specs.declared.chain.machine.Machine.{Machine}
use Rattle.papaya_call.specs.declared.chain.machine.Phase.{Phase}
use Rattle.papaya_call.specs.declared.chain.machine.Phase.TheVariants.{Calling, Linking, Copying as Copying_root}
use Rattle.papaya_call.specs.ChainMachine.{IsValid, IsValidPhase}
use Rattle.papaya_call_alone.specs.Budget.{Budget, IsSpent}
use Rattle.papaya_call_alone.specs.Measure.{left_of_carry, left_of_copying, left_of_settle, left_of_step}
use Rattle.papaya_call_alone.specs.Rank.{left_of_search, rank, rank_at_root, rank_in, rank_of, rank_of_phase, rank_to_serve}
use Rattle.papaya_call_alone.proofs.AsideRanks.{link_most}
use Rattle.papaya_call_alone.proofs.CallRanks.{pair_most, write_most}

-- a search within its table has no more left than this
search_small : (search : Search) → IsSearching search → left_of_search search < 2 ^ 70
search_small (Sizing t) h = omega arith
search_small (Looking at) h = let few = h.size.few in omega (arith, few)
search_small (Reading at) h = let few = h.size.few in omega (arith, few)
search_small (Comparing at word) h = let few = h.size.few in omega (arith, few)

serve_small : (made : Made) (purpose : Purpose) → rank_to_serve made purpose < 2 ^ 190
serve_small made (purposes.Fill gaps.NoRoot) = omega (arith, pair_most made 0)
serve_small made (purposes.Fill (gaps.At at)) = omega (arith, pair_most made 0)
serve_small made (purposes.Fill (gaps.After t)) = omega (arith, pair_most made 0)
serve_small made (purposes.Replace write) = omega (arith, pair_most made write.old)
serve_small made (purposes.Again write) = omega (arith, pair_most made write.old)

state_small : (task : Task) (made : Made) (state : State) → IsValidState task state → rank_in made state < 2 ^ 190
state_small task made AtRoot h = omega arith
state_small task made Making h = omega arith
state_small task made (Opening t) h = omega arith
state_small task made (Searching search) h = let s = search_small search h in omega (arith, s)
state_small task made (Writing write) h = omega (arith, write_most made write)
state_small task made (Offering gaps.NoRoot) h = omega arith
state_small task made (Offering (gaps.At at)) h = omega arith
state_small task made (Offering (gaps.After t)) h = omega arith
state_small task made (Showing removal) h = omega arith
state_small task made (Pairing purpose) h = serve_small made purpose
state_small task made (Putting put) h = omega arith
state_small task made (Burying removal) h = omega arith
state_small task made (Counting n) h = omega arith
state_small task made (Noting n) h = omega arith
state_small task made (Uncounting n) h = omega arith
state_small task made (Leaving t) h = omega arith
state_small task made (Growing need) h = omega arith
state_small task made (Ended reply) h = omega arith

carry_small : (carry : Carry) → IsValidCarry carry → left_of_carry carry < 2 ^ 67
carry_small (carries.Hashing table) h = omega arith
carry_small (carries.Sizing hash table) h = omega arith
carry_small (carries.Looking hash at) h = let few = h.size.few in omega (arith, few)
carry_small (carries.Reading hash at) h = let few = h.size.few in omega (arith, few)
carry_small (carries.Comparing hash at word) h = let few = h.size.few in omega (arith, few)
carry_small (carries.Placing hash at) h = omega arith
carry_small (carries.Placed hash at) h = omega arith
carry_small (carries.Passing hash table) h = omega arith
carry_small (carries.Linking hash link) h = let l = link_most link in omega (arith, l)
carry_small (carries.Aborting table) h = omega arith

settle_small : (settle : Settle) → IsValidSettle settle → left_of_settle settle < 2 ^ 68
settle_small settles.Looking h = omega arith
settle_small settles.Closing h = omega arith
settle_small settles.Shutting h = omega arith
settle_small (settles.Marking word) h = omega arith
settle_small (settles.Carrying word carry) h = let c = carry_small carry h in omega (arith, c)
settle_small (settles.Finishing word) h = omega arith

step_small : (step : Step) → IsValidStep step → left_of_step step < 2 ^ 104
step_small steps.AtRoot h = omega arith
step_small (steps.Aiming from behind) h = omega arith
step_small (steps.Linking from link) h = let l = link_most link in omega (arith, l)
step_small (steps.Judging from to) h = omega arith
step_small (steps.Sizing from to) h = omega arith
step_small (steps.AtChunk cursor) h =
    let a = h.start in
    let b = h.most in
    cond_both cursor.wrapped (cursor.start - cursor.at) (cursor.len - cursor.begun + cursor.start + 1)
    (λ left. cursor.len * 2 ^ 68 + 2 ^ 68 + left + 3 < 2 ^ 104) (λ _. omega (arith, a, b)) (λ _. omega (arith, a, b))
step_small (steps.Settling chunk settle) h = let a = h.0.within in let b = h.0.cursor.most in let s = settle_small settle h.1 in omega (arith, a, b, s)
step_small (steps.Advancing cursor) h = omega arith
step_small (steps.Promoting from to) h = omega arith

-- a copy within its tables has little left
pub copying_small : (copying : Copying) → IsValidCopying copying → left_of_copying copying < 2 ^ 104
copying_small (copyings.Stepping aim step) h = step_small step h
copying_small (copyings.Lone slot settle) h = let s = settle_small settle h in omega (arith, s)

root_small : (root : ℕ) (aim : Aim) → rank_at_root root aim < 2 ^ 190
root_small root (aims.Search t) = omega arith
root_small root (aims.Settle slot) = omega arith
root_small root aims.Chunk = omega arith
root_small root (aims.All met) = cond_both (met == 0 || met == root) (rank 1 0 (2 * 2 ^ 102)) (rank 3 0 0) (λ r. r < 2 ^ 190) (λ _. omega arith)
    (λ _. omega arith)

phase_small : (root : ℕ) (m : Machine) (phase : Phase) → IsValidState m.call.task m.call.state → IsValidPhase phase
    → rank_of_phase root m.call phase < 2 ^ 190
phase_small root m Calling h h' = state_small m.call.task m.call.made m.call.state h
phase_small root m (Linking link) h h' = let l = link_most link in omega (arith, l)
phase_small root m (Copying_root (copyings.Stepping aim steps.AtRoot)) h h' = root_small root aim
phase_small root m (Copying_root (copyings.Stepping aim (steps.Aiming from behind))) h h' = let s = step_small (steps.Aiming from behind) h' in omega (arith, s)
phase_small root m (Copying_root (copyings.Stepping aim (steps.Linking from link))) h h' = let s = step_small (steps.Linking from link) h' in omega (arith, s)
phase_small root m (Copying_root (copyings.Stepping aim (steps.Judging from to))) h h' = let s = step_small (steps.Judging from to) h' in omega (arith, s)
phase_small root m (Copying_root (copyings.Stepping aim (steps.Sizing from to))) h h' = let s = step_small (steps.Sizing from to) h' in omega (arith, s)
phase_small root m (Copying_root (copyings.Stepping aim (steps.AtChunk cursor))) h h' =
    let s = step_small (steps.AtChunk cursor) h' in
    cond_both cursor.copied (rank 5 0 (left_of_step (steps.AtChunk cursor))) (rank 1 0 (left_of_step (steps.AtChunk cursor))) (λ r. r < 2 ^ 190)
    (λ _. omega (arith, s)) (λ _. omega (arith, s))
phase_small root m (Copying_root (copyings.Stepping aim (steps.Settling chunk settle))) h h' = let s = step_small (steps.Settling chunk settle) h' in
    omega (arith, s)
phase_small root m (Copying_root (copyings.Stepping aim (steps.Advancing cursor))) h h' = omega arith
phase_small root m (Copying_root (copyings.Stepping aim (steps.Promoting from to))) h h' = omega arith
phase_small root m (Copying_root (copyings.Lone slot settle)) h h' = let s = settle_small settle h' in omega (arith, s)

-- a valid machine has a small rank
pub rank_small : (root : ℕ) (m : Machine) → IsValid m → rank_of root m < 2 ^ 190
rank_small root m h = phase_small root m m.phase h.call.state h.phase

-- two digits below their bases
digits : (a b r r' : ℕ) → a < b → r' < 2 ^ 192 → a * 2 ^ 192 + r' < b * 2 ^ 192 + r
digits a b r r' less small = omega (arith, less, small)

tables : (a b e e' : ℕ) → a < b → e' < 2 ^ 128 → a * 2 ^ 128 + e' < b * 2 ^ 128 + e
tables a b e e' less small = omega (arith, less, small)

-- a budget that is spent is less
budget_less : (before later : Budget) → later.exchanges < 2 ^ 128 → IsSpent before later
    → later.tables * 2 ^ 128 + later.exchanges < before.tables * 2 ^ 128 + before.exchanges
budget_less before later few (inl less) = tables later.tables before.tables before.exchanges later.exchanges less few
budget_less before later few (inr (same, less)) = omega (arith, same, less)

-- so the measure is less
pub measure_less : (before later : Budget) (r r' : ℕ) → later.exchanges < 2 ^ 128 → r' < 2 ^ 192 → IsSpent before later ⊎ ((later ≡ before) × (r' < r))
    → (later.tables * 2 ^ 128 + later.exchanges) * 2 ^ 192 + r' < (before.tables * 2 ^ 128 + before.exchanges) * 2 ^ 192 + r
measure_less before later r r' few small (inl spent) = digits _ _ r r' (budget_less before later few spent) small
measure_less before later r r' few small
    (inr (same, less)) = subst (λ b. (b.tables * 2 ^ 128 + b.exchanges) * 2 ^ 192 + r' < (before.tables * 2 ^ 128 + before.exchanges) * 2 ^ 192 + r)
    (sym same) (omega (arith, less))
