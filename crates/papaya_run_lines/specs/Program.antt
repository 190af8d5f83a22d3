-- The output of a run of the program.
use Rattle.std.specs.Prelude.{◌≡◌, ℕ, List, [], ◌⊎◌, Result, Err}
use Rattle.std.specs.Hash.{u64}
use Rattle.papaya_words.specs.declared.resize_mode.ResizeMode.{ResizeMode}
use Rattle.papaya_words_keys.specs.Hashes.{hash_of}
use Rattle.papaya_core_timeline.specs.New.{IsNew}
use Rattle.papaya_seq.specs.Map.{MapState, core_of}
use Rattle.papaya_map.specs.Known.{Known}
use Rattle.papaya_run_shell.specs.Failure.{exit_status}
use Rattle.papaya_run_shell.specs.declared.failure.Failure.{Failure}
use Rattle.papaya_run_shell.specs.declared.failure.Failure.TheVariants as failure
use Rattle.papaya_run_lines.specs.Arguments.{WritesArguments}
use Rattle.papaya_run_lines.specs.Commands.{WritesNone}
use Rattle.papaya_run_lines.specs.Hashers.{number_written}
use Rattle.papaya_run_lines.specs.declared.arguments.Arguments.{Arguments}
use Rattle.papaya_run_lines.specs.declared.arguments.Backend.{Backend}
use Rattle.papaya_run_lines.specs.declared.arguments.Backend.TheVariants as backend
use Rattle.papaya_run_lines.specs.declared.arguments.Hashing.{Hashing}
use Rattle.papaya_run_lines.specs.declared.arguments.Hashing.TheVariants as hashing
use Rattle.papaya_run_lines.specs.declared.hashers.Identity.{Identity}
use Rattle.papaya_run_lines.specs.declared.hashers.Zero.{Zero}
use Rattle.papaya_run_lines.specs.declared.printed.Printed.{Printed}
use Rattle.papaya_run_lines.specs.Core.{IsCoreRun}
use Rattle.papaya_run_lines.specs.Runs.{IsRun}
use Rattle.papaya_run_lines.specs.Seq.{ObeysLine}
use Rattle.papaya_run_lines.specs.Shared as shared

-- The hash of a key by `Identity`, which is made of the key's eight bytes, the lowest first; by
-- `Zero` it is 0.
abbrev pub identity_hash : Identity → ℕ → ℕ
identity_hash = hash_of u64 (λ s. 0) (λ h bytes. number_written bytes) (λ h. h)

abbrev pub zero_hash : Zero → ℕ → ℕ
zero_hash s key = 0

-- A new map for one caller.
abbrev pub IsNewMap : {S : Type 0} → ResizeMode → S → MapState ℕ ℕ S → Type 0
IsNewMap mode hasher s = IsNew {A = Unit {0}} mode 0 1 hasher (core_of s)

-- A line that is run on a map for one caller.
abbrev pub DoesLine : {S : Type 0} → MapState ℕ ℕ S → List ℕ → Printed → MapState ℕ ℕ S → Type 0
DoesLine old line text new = ObeysLine line old text new

-- A line that is run on a shared map, by one session for the whole run. There is one history, and
-- each line's result is right for a state no earlier than what the line before had observed.
abbrev pub ShowsLine : {S : Type 0} → Known ℕ ℕ S → List ℕ → Printed → Known ℕ ℕ S → Type 0
ShowsLine old line text new = shared.ObeysLine line old text new

-- The result of a run of these lines on a new map.
abbrev pub RunsOn : {S : Type 0} → (hash : S → ℕ → ℕ) → Backend → ResizeMode → S
    → List (List ℕ) → (wrote : List ℕ → Type 0) → Result (Unit {0}) Failure → Type 0
RunsOn hash backend.Core mode hasher lines wrote ended =
    IsCoreRun hash (IsNew mode 0 1 hasher) lines wrote ended
RunsOn hash backend.Seq mode hasher lines wrote ended =
    IsRun (IsNewMap mode hasher) DoesLine WritesNone lines wrote ended
RunsOn {S = S} hash backend.Shared mode hasher lines wrote ended =
    IsRun (shared.IsBegun {S = S}) ShowsLine shared.IsBad lines wrote ended

-- The same with the hasher that was requested.
abbrev pub RunsBy : Backend → ResizeMode → Hashing → List (List ℕ) → (wrote : List ℕ → Type 0)
    → Result (Unit {0}) Failure → Type 0
RunsBy on mode hashing.Identity lines wrote ended =
    RunsOn identity_hash on mode (record {}) lines wrote ended
RunsBy on mode hashing.Zero lines wrote ended =
    RunsOn zero_hash on mode (record {}) lines wrote ended

-- The result of a run of the program with these words and lines. If the words are no arguments,
-- nothing was written.
abbrev pub IsProgramRun : (words lines : List (List ℕ)) → (wrote : List ℕ → Type 0)
    → Result (Unit {0}) Failure → Type 0
IsProgramRun words lines wrote ended =
    (((a : Arguments) → ¬ (WritesArguments words a)) × (ended ≡ Err failure.Arguments) × wrote [])
    ⊎ ((a : Arguments) × WritesArguments words a
    × RunsBy a.backend a.mode a.hashing lines wrote ended)

-- The run ends with this exit status.
abbrev pub RunsTo : (status : ℕ) → (words lines : List (List ℕ)) → (wrote : List ℕ → Type 0) → Type 0
RunsTo status words lines wrote = (ended : Result (Unit {0}) Failure)
    × (status ≡ exit_status ended) × IsProgramRun words lines wrote ended
