-- A line requests at most one turn.
use Rattle.std.proofs.Common.{◌≡◌, ◌≢◌, ℕ, List, ◌∷◌, ◌++◌, true, false, sym, ◌∙◌, ap, subst, arith, Contains, codes, inl, inr}
use Rattle.std.specs.Prelude.{◌⊎◌, Option, None, MatchOption}
use Rattle.papaya_call.specs.declared.call.Call.{Call}
use Rattle.papaya_call.specs.declared.call.Call.TheVariants.{Get, Insert, RemoveIf, Compute, Clear, Walk}
use Rattle.papaya_core_timeline.specs.declared.trace.Turn.{Turn}
use Rattle.papaya_core_timeline.specs.declared.trace.Turn.TheVariants.{Begin, Step, Finish}
use Rattle.papaya_run_lines.specs.Commands.{Parts, WritesCommand}
use Rattle.papaya_run_lines.specs.Turns.{WritesCaller, WritesCall, WritesTurn, verb_word}
use Rattle.papaya_run_lines.specs.declared.closures.Answering.{Answering}
use Rattle.papaya_run_lines.specs.declared.commands.Command.{Command}
use Rattle.papaya_run_lines.specs.declared.commands.Command.TheVariants as command
use Rattle.papaya_run_lines.specs.declared.turns.Verb.{Verb}
use Rattle.papaya_run_lines.specs.declared.turns.Verb.TheVariants as verb
use Rattle.papaya_run_lines.proofs.PartLemmas.{above_no_space, cut_once, first, has_cut, number_no_space}

-- the words of turns have no space
begin_no_space : ¬ (Contains (codes "begin") 32)
begin_no_space = above_no_space (codes "begin") (omega arith, (omega arith, (omega arith, (omega arith, (omega arith, tt)))))

step_no_space : ¬ (Contains (codes "step") 32)
step_no_space = above_no_space (codes "step") (omega arith, (omega arith, (omega arith, (omega arith, tt))))

refuse_no_space : ¬ (Contains (codes "refuse") 32)
refuse_no_space = above_no_space (codes "refuse") (omega arith, (omega arith, (omega arith, (omega arith, (omega arith, (omega arith, tt))))))

finish_no_space : ¬ (Contains (codes "finish") 32)
finish_no_space = above_no_space (codes "finish") (omega arith, (omega arith, (omega arith, (omega arith, (omega arith, (omega arith, tt))))))

-- a text that is no command is no call
pub no_command : (text : List ℕ) → ((what : Command) → ¬ (WritesCommand text what)) → (call : Call ℕ ℕ Answering) → ¬ (WritesCall text call)
no_command text none (Get k) w = none (command.Get k) w
no_command text none (Insert k v) w = none (command.Insert k v) w
no_command text none (RemoveIf k agrees) w = none (command.Remove k) w
no_command text none (Compute k answers) w = none (command.Update k) w
no_command text none Clear w = none command.Clear w
no_command text none Walk w = none command.Walk w
no_command text none _ w = w

-- the word with which a turn's line begins
abbrev word_of : Turn ℕ ℕ Answering → List ℕ
word_of (Begin c what) = codes "begin"
word_of (Step c false) = codes "step"
word_of (Step c true) = codes "refuse"
word_of (Finish c n) = codes "finish"

-- a line that requests a turn begins with its word and a space
turn_word : (line : List ℕ) (turn : Turn ℕ ℕ Answering) → WritesTurn line turn → (rest : List ℕ) × (line ≡ word_of turn ++ 32 ∷ rest)
    × ¬ (Contains (word_of turn) 32)
turn_word line (Begin c what) (caller, call, w, u, e) = (caller ++ 32 ∷ call, e, begin_no_space)
turn_word line (Step c false) (caller, w, e) = (caller, e, step_no_space)
turn_word line (Step c true) (caller, w, e) = (caller, e, refuse_no_space)
turn_word line (Finish c n) ((caller, w, e), most) = (caller, e, finish_no_space)

-- a line without a space requests no turn
pub no_space_turn : (line : List ℕ) → ¬ (Contains line 32) → (turn : Turn ℕ ℕ Answering) → ¬ (WritesTurn line turn)
no_space_turn line none turn w =
    let t : (rest : List ℕ) × (line ≡ word_of turn ++ 32 ∷ rest) × ¬ (Contains (word_of turn) 32) = turn_word line turn w in
    none (has_cut line (word_of turn) t.0 t.1)

-- the part before the first space is the turn's word
turn_first : (line verb rest : List ℕ) → Parts line verb rest → (turn : Turn ℕ ℕ Answering) → WritesTurn line turn → word_of turn ≡ verb
turn_first line verb rest parts turn w =
    let t : (rest : List ℕ) × (line ≡ word_of turn ++ 32 ∷ rest) × ¬ (Contains (word_of turn) 32) = turn_word line turn w in
    (cut_once (word_of turn) t.0 verb rest (sym t.1 ∙ parts.0) t.2 parts.1).0

-- a line with another verb requests no turn
pub no_verb : (line word rest : List ℕ) → Parts line word rest → ((v : Verb) → word ≢ verb_word v) → (turn : Turn ℕ ℕ Answering) → ¬ (WritesTurn line turn)
no_verb line word rest parts none (Begin c what) w = none verb.Begin (sym (turn_first line word rest parts (Begin c what) w))
no_verb line word rest parts none (Step c false) w = none verb.Step (sym (turn_first line word rest parts (Step c false) w))
no_verb line word rest parts none (Step c true) w = none verb.Refuse (sym (turn_first line word rest parts (Step c true) w))
no_verb line word rest parts none (Finish c n) w = none verb.Finish (sym (turn_first line word rest parts (Finish c n) w))

-- the text behind the verb of a begin
begins : (line word rest : List ℕ) → Parts line word rest → word ≡ codes "begin" → (turn : Turn ℕ ℕ Answering) → WritesTurn line turn
    → ((c : ℕ) (what : Call ℕ ℕ Answering) (caller call : List ℕ) → WritesCaller caller c → WritesCall call what → rest ≡ caller ++ 32 ∷ call → ⊥) → ⊥
begins line word rest parts named (Begin c what) (caller, call, w, u, e) then =
    then c what caller call w u (sym (cut_once (codes "begin") (caller ++ 32 ∷ call) word rest (sym e ∙ parts.0) begin_no_space parts.1).1)
begins line word rest parts named (Step c false) w then = let h : 115 ≡ 98 = ap first (turn_first line word rest parts (Step c false) w ∙ named) in
    omega (arith, h)
begins line word rest parts named (Step c true) w then = let h : 114 ≡ 98 = ap first (turn_first line word rest parts (Step c true) w ∙ named) in
    omega (arith, h)
begins line word rest parts named (Finish c n) w then = let h : 102 ≡ 98 = ap first (turn_first line word rest parts (Finish c n) w ∙ named) in omega (arith, h)

-- a begin with no space behind its caller
pub no_call : (line word rest : List ℕ) → Parts line word rest → word ≡ codes "begin" → ¬ (Contains rest 32) → (turn : Turn ℕ ℕ Answering)
    → ¬ (WritesTurn line turn)
no_call line word rest parts named none turn w = begins line word rest parts named turn w (λ c what caller call u s e. none (has_cut rest caller call e))

-- a begin whose caller or call is none
pub no_begin : (line word rest caller call : List ℕ) → Parts line word rest → word ≡ codes "begin" → Parts rest caller call
    → (((c : ℕ) → ¬ (WritesCaller caller c)) ⊎ ((what : Call ℕ ℕ Answering) → ¬ (WritesCall call what))) → (turn : Turn ℕ ℕ Answering)
    → ¬ (WritesTurn line turn)
no_begin line word rest caller call parts named split none turn w = begins line word rest parts named turn w (λ c what own other u s e.
    let cut : (own ≡ caller) × (other ≡ call) = cut_once own other caller call (sym e ∙ split.0) (number_no_space own c u.0) split.1 in
    let P : List ℕ → Type 0 = λ t. WritesCaller t c in
    let R : List ℕ → Type 0 = λ t. WritesCall t what in
    elim none [ inl h ↦ h c (subst P cut.0 u) | inr h ↦ h what (subst R cut.1 s) ])

-- the meaning of a refusal, for a result that is `None`
pub none_call : (text : List ℕ) (r : Option (Call ℕ ℕ Answering)) → r ≡ None → ((call : Call ℕ ℕ Answering) → ¬ (WritesCall text call))
    → MatchOption r ((call : Call ℕ ℕ Answering) → ¬ (WritesCall text call)) (WritesCall text)
none_call text r e h = let P : Option (Call ℕ ℕ Answering)
    → Type 0 = λ o. MatchOption o ((call : Call ℕ ℕ Answering) → ¬ (WritesCall text call)) (WritesCall text) in subst P (sym e) h

pub none_turn : (line : List ℕ) (r : Option (Turn ℕ ℕ Answering)) → r ≡ None → ((turn : Turn ℕ ℕ Answering) → ¬ (WritesTurn line turn))
    → MatchOption r ((turn : Turn ℕ ℕ Answering) → ¬ (WritesTurn line turn)) (WritesTurn line)
none_turn line r e h = let P : Option (Turn ℕ ℕ Answering)
    → Type 0 = λ o. MatchOption o ((turn : Turn ℕ ℕ Answering) → ¬ (WritesTurn line turn)) (WritesTurn line) in subst P (sym e) h
