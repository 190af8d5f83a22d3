-- An insertion on the fast path: its stores and writes are answers to the asks of its machine.
use Rattle.std.proofs.Common.{◌≡◌, ℕ, ◌<◌, ◌==◌, slice_get, Bool, true, false}
use Rattle.std.proofs.Common.{cond, List, [], ◌∷◌, ◌++◌, Option, None, Some, option_map}
use Rattle.std.proofs.Common.{length, inl, inr, refl, sym, ◌∙◌, ap, subst}
use Rattle.std.proofs.lemmas.Bool.{eqb-true, ne_eqb}
use Rattle.std.specs.Prelude.{pos}
use Rattle.papaya_words.specs.Counter.{added}
use Rattle.papaya_words.specs.Word.{kind_of, live_word, pair_of as number_of}
use Rattle.papaya_words.specs.declared.word.Kind.TheVariants.{Live}
use Rattle.papaya_words.specs.declared.resize_mode.ResizeMode.{ResizeMode}
use Rattle.papaya_words.specs.declared.limits.TheConstants.{MAX_LOG_LEN}
use Rattle.papaya_words.specs.declared.refused.Refused.{Refused}
use Rattle.papaya_call.specs.declared.ask.Answer.{Answer}
use Rattle.papaya_call.specs.declared.ask.Answer.TheVariants.{Exchanged, Yes, Made as Made_number, Ok as Ok_done, Refused as Was_refused}
use Rattle.papaya_call.specs.declared.ask.Ask.{Ask}
use Rattle.papaya_call.specs.declared.ask.Ask.TheVariants.{Load, Exchange, LoadHint, WriteHint}
use Rattle.papaya_call.specs.declared.ask.Ask.TheVariants.{SameKey, ShowNone, ShowPair, SizeOf}
use Rattle.papaya_call.specs.declared.ask.Ask.TheVariants.{MakeKey, MakeValue, MakePair, MakePairOf}
use Rattle.papaya_call.specs.declared.ask.Ask.TheVariants.{MakeTable, AddToShard, Done as Ask_done}
use Rattle.papaya_call.specs.declared.search.Place.{Place}
use Rattle.papaya_call.specs.declared.call.Task.TheVariants.{Insert}
use Rattle.papaya_call.specs.declared.call.Reply.{Reply}
use Rattle.papaya_call.specs.declared.call.Reply.TheVariants.{Inserted, Occupied, Replaced, Refused as Reply_refused}
use Rattle.papaya_call.specs.declared.machine.Machine.{Machine}
use Rattle.papaya_call.specs.declared.machine.State.{State}
use Rattle.papaya_call.specs.declared.machine.State.TheVariants.{AtRoot, Writing, Counting, Noting, Ended}
use Rattle.papaya_call.specs.declared.made.Made.{Made}
use Rattle.papaya_call.specs.declared.write.Write.{Write}
use Rattle.papaya_call.specs.Machine.{after, ask_of, asks as call_asks, exchanged as exchanged_to}
use Rattle.papaya_call.specs.Machine.{found, goes, made_in, occupies, refuses, replaces, started}
use Rattle.papaya_call.specs.Machine.{write_taken, written}
use Rattle.papaya_call.specs.Made.{nothing_made, of_ask, of_grown, own_ask, own_grown}
use Rattle.papaya_call.specs.Write.{claimed_by, made_to_write, put_ask, served_ask, served_of, serves, with_pair_at, write_grown}
use Rattle.papaya_call.specs.declared.chain.ask.Answer.{Answer as Chain_answer}
use Rattle.papaya_call.specs.declared.chain.ask.Answer.TheVariants as answers
use Rattle.papaya_call.specs.declared.chain.ask.Ask.TheVariants as asks
use Rattle.papaya_call.specs.ChainMachine as chain
use Rattle.papaya_core_store.specs.declared.pairs.Pair.{Pair}
use Rattle.papaya_core_store.specs.declared.pairs.Pair.TheVariants as pairs
use Rattle.papaya_core_store.specs.declared.pairs.Part.{Part}
use Rattle.papaya_core_store.specs.declared.pairs.Part.TheVariants.{Own, Logged}
use Rattle.papaya_core_store.specs.Pairs.{key_from}
use Rattle.papaya_core_store.specs.declared.pairs.Running.{Running}
use Rattle.papaya_core_store.specs.Performs.{Performs, Refuses, same_stored}
use Rattle.papaya_core_store.specs.Store.{StoreState, Stored, pair_of}
use Rattle.papaya_core_store.specs.Tables.{word_at}
use Rattle.papaya_core_timeline.specs.Solo.{whatever}
use Rattle.papaya_seq.specs.Drives.{Drives, IsDriven, IsOfStore, IsReplied, at_hand}
use Rattle.papaya_seq.specs.Looks.{Comes, IsSearchAsk, IsTrueOfStore, matches_in}
use Rattle.papaya_seq.specs.Searches.{IsRootHit, seen_by}
use Rattle.papaya_seq.specs.Writes.{IsWritten, claiming, slot_of, storing}
use Rattle.papaya_seq.specs.declared.search.ProbeHit.{ProbeHit}
use Rattle.papaya_seq.specs.declared.search.ProbeHit.TheVariants as turns
use Rattle.papaya_seq.proofs.Driving.{calling, calling_by, goes_itself}
use Rattle.papaya_seq.proofs.Exchanging.{exchange_made}
use Rattle.papaya_seq.proofs.Logs.{placed_serves}

-- the answers of a call
abbrev pub call_answers : List Answer → List Chain_answer
call_answers [] = []
call_answers (answer ∷ rest) = answers.Call answer ∷ call_answers rest

-- a call that continues for itself, with this number, its key and its value
abbrev pub under_way_by : {K V : Type 0} → ℕ → Machine → Part K → Option (Part V) → Running K V (Unit {0})
under_way_by n m key value = record { machine = calling_by n m; key = key; value = value; answers = None }

-- one with number 0
abbrev pub under_way : {K V : Type 0} → Machine → Part K → Option (Part V) → Running K V (Unit {0})
under_way m key value = under_way_by 0 m key value

module _ {K V S : Type 0} (eq : K → K → Bool) (hash : S → K → ℕ) where
  -- one run of answers after another
  pub drives_on : (first rest : List Chain_answer) (s : StoreState K V S) (r : Running K V (Unit {0})) (s' : StoreState K V S)
      (r' : Running K V (Unit {0})) (s'' : StoreState K V S) (r'' : Running K V (Unit {0})) → Drives eq hash first s r s' r'
      → Drives eq hash rest s' r' s'' r'' → Drives eq hash (first ++ rest) s r s'' r''
  drives_on [] rest s r s' r' s'' r'' (store, call) more = subst (λ x. Drives eq hash rest x r s'' r'') store
      (subst (λ x. Drives eq hash rest s' x s'' r'') call more)
  drives_on (answer ∷ first) rest s r s' r' s'' r'' (middle, later, step, led)
      more = (middle, later, step, drives_on first rest middle (record later { machine = chain.after r.machine answer }) s' r' s'' r'' led more)

  -- so a call that was driven there has the reply that it has from there
  pub replied_on : (told : List Chain_answer) (s : StoreState K V S) (r r' : Running K V (Unit {0})) (reply : Reply) (left : Option V)
      (s' : StoreState K V S) → Drives eq hash told s r s r' → IsReplied eq hash s r' reply left s' → IsReplied eq hash s r reply left s'
  replied_on told s r r' reply left s' before
      done = record {
        answers = told ++ done.answers;
        end = done.end;
        drives = drives_on told done.answers s r s r' s' done.end before done.drives;
        replied = done.replied;
        value = done.value;
      }

  -- one ask of a call is answered
  pub driven_by : (n : ℕ) (m : Machine) (k : Part K) (v : Option (Part V)) (ask : Ask) → ask_of m ≡ ask → (told : Answer) → IsOfStore (asks.Call ask)
      → chain.IsFitAsk (asks.Call ask) → (s s' : StoreState K V S) (later : Running K V (Unit {0}))
      → Performs eq whatever false ask s (under_way_by n m k v) told s' later → later.machine ≡ calling_by n m
      → IsDriven eq hash s (under_way_by n m k v) (answers.Call told) s' later
  driven_by n m k v ask is told asked fit s s' later performs same = record {
    asked = subst (λ a. IsOfStore (asks.Call a)) (sym is) asked;
    fit = subst (λ a. chain.IsFitAsk (asks.Call a)) (sym is) fit;
    performs = (told, refl, subst (λ a. Performs eq whatever false a s (under_way_by n m k v) told s' later) (sym is) performs);
    same = same;
  }

  pub driven : (m : Machine) (k : Part K) (v : Option (Part V)) (ask : Ask) → ask_of m ≡ ask → (told : Answer) → IsOfStore (asks.Call ask)
      → chain.IsFitAsk (asks.Call ask) → (s s' : StoreState K V S) (later : Running K V (Unit {0}))
      → Performs eq whatever false ask s (under_way m k v) told s' later → later.machine ≡ calling m
      → IsDriven eq hash s (under_way m k v) (answers.Call told) s' later
  driven m k v ask is told asked fit s s' later performs same = driven_by 0 m k v ask is told asked fit s s' later performs same

  module _ (s : StoreState K V S) (key : K) (value : Option V) where
    -- a call of this number, with its own key and value
    abbrev pub begun_by : ℕ → Machine → Running K V (Unit {0})
    begun_by n m = under_way_by n m (Own key) (option_map (λ v. Own v) value)

    -- a call continues with the answers to the search of the root
    same_matches : (o : Option (Stored K V)) → matches_in (eq key) o ≡ same_stored eq key o
    same_matches None = refl
    same_matches (Some p) = refl

    searched_step : (n : ℕ) (m : Machine) (answer : Answer) (ask : Ask) → ask_of m ≡ ask → IsSearchAsk ask → IsTrueOfStore (eq key) s ask answer
        → IsDriven eq hash s (begun_by n m) (answers.Call answer) s (begun_by n m)
    searched_step n m answer (Load at) is asked told = driven_by n m (Own key) (option_map (λ v. Own v) value) (Load at) is answer tt tt s s
        (begun_by n m) (told, (refl, refl)) refl
    searched_step n m answer (LoadHint t x) is asked told = driven_by n m (Own key) (option_map (λ v. Own v) value) (LoadHint t x) is answer tt tt s s
        (begun_by n m) (told, (refl, refl)) refl
    searched_step n m answer (SameKey i) is asked told = driven_by n m (Own key) (option_map (λ v. Own v) value) (SameKey i) is answer tt tt s s
        (begun_by n m) (told ∙ ap Yes (same_matches (pair_of s i)), (refl, refl)) refl
    searched_step n m answer (SizeOf i) is asked told = driven_by n m (Own key) (option_map (λ v. Own v) value) (SizeOf i) is answer tt tt s s
        (begun_by n m) (told, (refl, refl)) refl
    searched_step n m answer (WriteHint t x hint) is asked told = absurd asked
    searched_step n m answer (Exchange at old new) is asked told = absurd asked
    searched_step n m answer ShowNone is asked told = absurd asked
    searched_step n m answer (ShowPair i) is asked told = absurd asked
    searched_step n m answer MakeKey is asked told = absurd asked
    searched_step n m answer MakePair is asked told = absurd asked
    searched_step n m answer MakeValue is asked told = absurd asked
    searched_step n m answer (MakePairOf i) is asked told = absurd asked
    searched_step n m answer (MakeTable slots limit chunks) is asked told = absurd asked
    searched_step n m answer (AddToShard by) is asked told = absurd asked
    searched_step n m answer (Ask_done reply) is asked told = absurd asked

    -- it needs no next table there
    searched_goes : (n : ℕ) (m : Machine) (answer : Answer) → IsSearchAsk (ask_of m)
        → chain.after (calling_by n m) (answers.Call answer) ≡ calling_by n (after m answer)
    searched_goes n m answer asked = goes_itself n m answer (λ need e. subst (λ st. IsSearchAsk (ask_of (record m { state = st }))) e asked)
        (λ t e. absurd (subst (λ st. IsSearchAsk (ask_of (record m { state = st }))) e asked))

    pub comes_drives : (n : ℕ) (told : List Answer) (m m' : Machine) → Comes (eq key) s m told m'
        → Drives eq hash (call_answers told) s (begun_by n m) s (begun_by n m')
    comes_drives n [] m m' is = (refl, ap (λ (x : Machine). begun_by n x) is)
    comes_drives n (answer ∷ rest) m m' (asked, said, came) = (
      s,
      begun_by n m,
      searched_step n m answer (ask_of m) refl asked said,
      subst (λ x. Drives eq hash (call_answers rest) s (record (begun_by n m) { machine = x }) s (begun_by n m'))
          (sym (searched_goes n m answer asked)) (comes_drives n rest (after m answer) m' came),
    )

  module _ (s : StoreState K V S) (key : K) (value : V) where
    module _ (hashed : ℕ) (place : Place) (m : Machine) where
      -- the call in this state, with the pairs that it made
      abbrev stands_at : Made → State → Machine
      stands_at made state = record m { hash = hashed; made = made; state = state }

      abbrev at_place : ℕ → Write
      at_place old = record { place = place; old = old }

      abbrev pub begun : ℕ → Running K V (Unit {0})
      begun old = at_hand (stands_at (nothing_made None) (Writing (at_place old))) key (Some value)

      -- with its own key and value, or with those in the arena
      abbrev having : Part K → Part V → Made → State → Running K V (Unit {0})
      having k v made state = under_way (stands_at made state) k (Some v)

      -- the arena with one pair more
      abbrev pub logging : Pair K V → StoreState K V S
      logging p = record s { pairs = s.pairs ++ p ∷ [] }

      -- a pair of this key for an empty place: before it is stored in the arena, and when it is
      abbrev keyed : Made
      keyed = record (nothing_made None) { keyed = true }

      abbrev own_valued : Made
      own_valued = record keyed { valued = true }

      abbrev own_paired : Made
      own_paired = record own_valued { own = Some (length s.pairs) }

      own_drives : (rest : List Chain_answer) (s' : StoreState K V S) (r' : Running K V (Unit {0}))
          → Drives eq hash rest s (having (Own key) (Own value) own_valued (Writing (at_place 0))) s' r'
          → Drives eq hash (answers.Call (Made_number 0) ∷ answers.Call (Made_number 0) ∷ rest) s (begun 0) s' r'
      own_drives rest s' r' more = (
        s,
        begun 0,
        record { asked = tt; fit = tt; performs = (Made_number 0, refl, (refl, (refl, refl))); same = refl },
        (
          s,
          having (Own key) (Own value) keyed (Writing (at_place 0)),
          record { asked = tt; fit = tt; performs = (Made_number 0, refl, (refl, (refl, refl))); same = refl },
          more,
        ),
      )

      -- the pair was refused
      own_refused : (refused : Refused) → Refuses MAX_LOG_LEN (length s.pairs) (Was_refused refused)
          → IsReplied eq hash s (begun 0) (Reply_refused refused) (Some value) s
      own_refused refused cause = record {
        answers = answers.Call (Made_number 0) ∷ answers.Call (Made_number 0) ∷ answers.Call (Was_refused refused) ∷ [];
        end = having (Own key) (Own value) own_valued (Ended (Reply_refused refused));
        drives = own_drives (answers.Call (Was_refused refused) ∷ []) s (having (Own key) (Own value) own_valued (Ended (Reply_refused refused))) (
          s,
          having (Own key) (Own value) own_valued (Writing (at_place 0)),
          record { asked = tt; fit = tt; performs = (Was_refused refused, refl, inl (cause, (refl, refl))); same = refl },
          (refl, refl),
        );
        replied = refl;
        value = refl;
      }

      -- or stored in the arena, written, counted, and its hint written
      abbrev own_logged : State → Running K V (Unit {0})
      own_logged state = having (Logged (length s.pairs)) (Logged (length s.pairs)) own_paired state

      inserted : length s.pairs < MAX_LOG_LEN → word_at s.words (slot_of place) ≡ 0
          → IsReplied eq hash s (begun 0) (Inserted (length s.pairs)) None (claiming s hashed place (pairs.Own key value))
      inserted few stands = record {
        answers = answers.Call (Made_number 0) ∷ answers.Call (Made_number 0) ∷ rest;
        end = own_logged (Ended (Inserted (length s.pairs)));
        drives = own_drives rest noted (own_logged (Ended (Inserted (length s.pairs)))) (
          logging (pairs.Own key value),
          record (having (Own key) (Own value) own_valued (Writing (at_place 0))) { key = Logged (length s.pairs); value = Some (Logged (length s.pairs)) },
          record { asked = tt; fit = tt; performs = (Made_number (length s.pairs), refl, inr (inr (Own value, refl, refl, few, refl, refl))); same = refl },
          (
            exchanged,
            own_logged (Writing (at_place 0)),
            record {
              asked = tt;
              fit = tt;
              performs =
                  (Exchanged, refl, (exchange_made (logging (pairs.Own key value)) (slot_of place) 0 (live_word (length s.pairs)) stands, refl));
              same = refl;
            },
            (
              counted,
              own_logged (Counting (claimed_by (at_place 0) (length s.pairs))),
              record { asked = tt; fit = tt; performs = (Ok_done, refl, (refl, (0, refl), refl)); same = refl },
              (
                noted,
                own_logged (Noting (claimed_by (at_place 0) (length s.pairs))),
                record { asked = tt; fit = tt; performs = (Ok_done, refl, (refl, refl, refl)); same = refl },
                (refl, refl),
              ),
            ),
          ),
        );
        replied = refl;
        value = refl;
      }
        where
          exchanged : StoreState K V S
          exchanged = storing s place (pairs.Own key value)

          counted : StoreState K V S
          counted = record exchanged { count = added s.count 0 (pos 1) }

          noted : StoreState K V S
          noted = claiming s hashed place (pairs.Own key value)

          rest : List Chain_answer
          rest = answers.Call (Made_number (length s.pairs)) ∷ answers.Call Exchanged ∷ answers.Call Ok_done ∷ answers.Call Ok_done ∷ []

      -- a pair of the key that is there
      abbrev of_valued : Made
      of_valued = record (nothing_made None) { valued = true }

      -- if a pair is replaced
      module _ (old : ℕ) (some : (old == 0) ≡ false) where
        abbrev nothing : Made
        nothing = nothing_made None

        abbrev of_paired : Made
        of_paired = with_pair_at of_valued (at_place old) (length s.pairs)

        serves_none : (valued : Bool) → serves (record nothing { valued = valued }) (at_place old) ≡ None
        serves_none valued = ap (λ b. cond b (record nothing { valued = valued }).own (served_of (record nothing { valued = valued }).of place)) some

        wants_value : call_asks nothing hashed (Writing (at_place old)) ≡ MakeValue
        wants_value = ap (λ served. served_ask served (at_place old) nothing) (serves_none false)
            ∙ ap (λ b. cond b (own_ask false false) (of_ask false old)) some

        wants_pair : call_asks of_valued hashed (Writing (at_place old)) ≡ MakePairOf (number_of old)
        wants_pair = ap (λ served. served_ask served (at_place old) of_valued) (serves_none true) ∙ ap (λ b. cond b (own_ask false true) (of_ask true old)) some

        grows_value : made_in nothing 0 (Writing (at_place old)) ≡ of_valued
        grows_value = ap (λ served. write_grown served nothing (at_place old) 0) (serves_none false)
            ∙ ap (λ b. made_to_write (cond b (own_grown false false nothing) (of_grown false nothing)) (at_place old) 0) some

        grows_pair : made_in of_valued (length s.pairs) (Writing (at_place old)) ≡ of_paired
        grows_pair = ap (λ served. write_grown served of_valued (at_place old) (length s.pairs)) (serves_none true)
            ∙ ap (λ b. made_to_write (cond b (own_grown false true of_valued) (of_grown true of_valued)) (at_place old) (length s.pairs)) some

        of_drives : (rest : List Chain_answer) (s' : StoreState K V S) (r' : Running K V (Unit {0}))
            → Drives eq hash rest s (having (Own key) (Own value) of_valued (Writing (at_place old))) s' r'
            → Drives eq hash (answers.Call (Made_number 0) ∷ rest) s (begun old) s' r'
        of_drives rest s' r' more = (
          s,
          begun old,
          driven (stands_at nothing (Writing (at_place old))) (Own key) (Some (Own value)) MakeValue wants_value (Made_number 0) tt tt s s (begun old)
              (refl, (refl, refl)) refl,
          subst (λ made. Drives eq hash rest s (having (Own key) (Own value) made (Writing (at_place old))) s' r') (sym grows_value) more,
        )

        of_refused : (refused : Refused) → Refuses MAX_LOG_LEN (length s.pairs) (Was_refused refused)
            → IsReplied eq hash s (begun old) (Reply_refused refused) (Some value) s
        of_refused refused cause = record {
          answers = answers.Call (Made_number 0) ∷ answers.Call (Was_refused refused) ∷ [];
          end = having (Own key) (Own value) of_valued (Ended (Reply_refused refused));
          drives = of_drives (answers.Call (Was_refused refused) ∷ []) s (having (Own key) (Own value) of_valued (Ended (Reply_refused refused))) (
            s,
            having (Own key) (Own value) of_valued (Writing (at_place old)),
            driven (stands_at of_valued (Writing (at_place old))) (Own key) (Some (Own value)) (MakePairOf (number_of old)) wants_pair
                (Was_refused refused) tt tt s s (having (Own key) (Own value) of_valued (Writing (at_place old))) (inl (cause, (refl, refl))) refl,
            (refl, ap (λ served. having (Own key) (Own value) of_valued (refuses served refused (at_place old))) (sym (serves_none true))),
          );
          replied = refl;
          value = refl;
        }

        -- the call after its pair was stored in the arena, in this state
        abbrev of_logged : State → Running K V (Unit {0})
        of_logged state = having (Own key) (Logged (length s.pairs)) of_paired state

        serves_so : serves of_paired (at_place old) ≡ Some (length s.pairs)
        serves_so = placed_serves of_valued (at_place old) (length s.pairs)

        ends_so : written (at_place old) (length s.pairs) ≡ Ended (Replaced (number_of old) (length s.pairs))
        ends_so = ap (λ b. cond b (Counting (claimed_by (at_place old) (length s.pairs))) (Ended (Replaced (number_of old) (length s.pairs)))) some

        replaced : length s.pairs < MAX_LOG_LEN → (first : ℕ) → key_from (number_of old) (slice_get s.pairs (number_of old)) ≡ Some first
            → word_at s.words (slot_of place) ≡ old → IsReplied eq hash s (begun old) (Replaced (number_of old) (length s.pairs)) None
            (storing s place (pairs.Keyed first value))
        replaced few first from stands = record {
          answers = answers.Call (Made_number 0) ∷ answers.Call (Made_number (length s.pairs)) ∷ answers.Call Exchanged ∷ [];
          end = of_logged (Ended (Replaced (number_of old) (length s.pairs)));
          drives = of_drives (answers.Call (Made_number (length s.pairs)) ∷ answers.Call Exchanged ∷ []) (storing s place (pairs.Keyed first value))
              (of_logged (Ended (Replaced (number_of old) (length s.pairs)))) (
                logging (pairs.Keyed first value),
                having (Own key) (Logged (length s.pairs)) of_valued (Writing (at_place old)),
                driven (stands_at of_valued (Writing (at_place old))) (Own key) (Some (Own value)) (MakePairOf (number_of old)) wants_pair
                    (Made_number (length s.pairs)) tt tt s (logging (pairs.Keyed first value))
                    (having (Own key) (Logged (length s.pairs)) of_valued (Writing (at_place old)))
                    (inr (inr (first, from, (Own value, refl, refl, few, refl, refl)))) refl,
                subst (λ made. Drives eq hash (answers.Call Exchanged ∷ []) (logging (pairs.Keyed first value))
                    (having (Own key) (Logged (length s.pairs)) made (Writing (at_place old))) (storing s place (pairs.Keyed first value))
                    (of_logged (Ended (Replaced (number_of old) (length s.pairs))))) (sym grows_pair) (
                      storing s place (pairs.Keyed first value),
                      of_logged (Writing (at_place old)),
                      driven (stands_at of_paired (Writing (at_place old))) (Own key) (Some (Logged (length s.pairs)))
                          (put_ask (at_place old) (length s.pairs)) (ap (λ served. served_ask served (at_place old) of_paired) serves_so) Exchanged tt tt
                          (logging (pairs.Keyed first value)) (storing s place (pairs.Keyed first value)) (of_logged (Writing (at_place old)))
                          (exchange_made (logging (pairs.Keyed first value)) (slot_of place) old (live_word (length s.pairs)) stands, refl) refl,
                      (
                        refl,
                        ap of_logged (sym ends_so) ∙ ap (λ served.
                            having (Own key) (Logged (length s.pairs)) (write_taken served of_paired) (exchanged_to served (at_place old))) (sym serves_so),
                      ),
                    ),
              );
          replied = refl;
          value = refl;
        }

      -- so the call writes such a pair
      pub written_replied : (old : ℕ) → word_at s.words (slot_of place) ≡ old → (reply : Reply) (left : Option V) (s' : StoreState K V S)
          → IsWritten s hashed (at_place old) key value reply left s' → IsReplied eq hash s (begun old) reply left s'
      written_replied old stands (Inserted n) left s' (empty, stored, is) =
          subst (IsReplied eq hash s (begun old) (Inserted n) left) (sym is)
          (subst (λ l. IsReplied eq hash s (begun old) (Inserted n) l (claiming s hashed place (pairs.Own key value))) (sym stored.left_is)
          (subst (λ z. IsReplied eq hash s (begun old) (Inserted z) None (claiming s hashed place (pairs.Own key value))) (sym stored.number)
          (subst (λ (word : ℕ). IsReplied eq hash s (begun word) (Inserted (length s.pairs)) None (claiming s hashed place (pairs.Own key value)))
          (sym empty) (inserted stored.few (stands ∙ empty)))))
      written_replied old stands (Replaced gone n) left s' (some, stored, gone_is, (first, from, is)) =
          subst (IsReplied eq hash s (begun old) (Replaced gone n) left) (sym is)
          (subst (λ l. IsReplied eq hash s (begun old) (Replaced gone n) l (storing s place (pairs.Keyed first value))) (sym stored.left_is)
          (subst (λ z. IsReplied eq hash s (begun old) (Replaced gone z) None (storing s place (pairs.Keyed first value))) (sym stored.number)
          (subst (λ z. IsReplied eq hash s (begun old) (Replaced z (length s.pairs)) None (storing s place (pairs.Keyed first value))) (sym gone_is)
          (replaced old (ne_eqb old 0 some) stored.few first from stands))))
      written_replied old stands (Reply_refused refused) left s' (cause, left_is, is) =
          subst (IsReplied eq hash s (begun old) (Reply_refused refused) left) (sym is)
          (subst (λ l. IsReplied eq hash s (begun old) (Reply_refused refused) l s) (sym left_is) (by_old (old == 0) refl))
        where
          by_old : (b : Bool) → (old == 0) ≡ b → IsReplied eq hash s (begun old) (Reply_refused refused) (Some value) s
          by_old true empty = subst (λ (word : ℕ). IsReplied eq hash s (begun word) (Reply_refused refused) (Some value) s)
              (sym (eqb-true old 0 empty)) (own_refused refused cause)
          by_old false some = of_refused old some refused cause
      written_replied old stands reply left s' written = absurd written

  -- The reply of an insertion whose search of the root found this, as its machine gives it.
  module _ (s : StoreState K V S) (key : K) (value : V) (hashed : ℕ) (place : Place) (mode : ResizeMode) (initial : ℕ) where
    -- the insertion in this state
    abbrev inserts : Bool → State → Running K V (Unit {0})
    inserts replace state = at_hand (record (started (Insert replace) hashed mode initial None) { state = state }) key (Some value)

    -- it came there
    root_led : (replace : Bool) (turn : ProbeHit) (state : State) → IsRootHit (eq key) s hashed turn
        → goes (started (Insert replace) hashed mode initial None) (seen_by turn) ≡ state → (reply : Reply) (left : Option V) (s' : StoreState K V S)
        → IsReplied eq hash s (inserts replace state) reply left s' → IsReplied eq hash s (inserts replace AtRoot) reply left s'
    root_led replace turn state root is reply left s' done =
        let begun : Machine = started (Insert replace) hashed mode initial None in
        let came = root.sees begun in
        let led : Comes (eq key) s begun came.0 (record begun { state = state }) =
        subst (λ (st : State). Comes (eq key) s begun came.0 (record begun { state = st })) is came.1 in
        replied_on (call_answers came.0) s (inserts replace AtRoot) (inserts replace state) reply left s'
        (comes_drives s key (Some value) 0 came.0 begun (record begun { state = state }) led) done

    pub claimed : (replace : Bool) → IsRootHit (eq key) s hashed (turns.Empty place) → word_at s.words (slot_of place) ≡ 0
        → (done : Reply × Option V) (s' : StoreState K V S) → IsWritten s hashed (record { place = place; old = 0 }) key value done.0 done.1 s'
        → IsReplied eq hash s (inserts replace AtRoot) done.0 done.1 s'
    claimed replace root stands done s' writes = root_led replace (turns.Empty place) (Writing (record { place = place; old = 0 })) root refl done.0
        done.1 s' (written_replied s key value hashed place (started (Insert replace) hashed mode initial None) 0 stands done.0 done.1 s' writes)

    module _ (word : ℕ) (live : kind_of word ≡ Live) (root : IsRootHit (eq key) s hashed (turns.Here place word)) where
      pub replaces_it : (replace : Bool) → replace ≡ true → (done : Reply × Option V) (s' : StoreState K V S)
          → IsWritten s hashed (record { place = place; old = word }) key value done.0 done.1 s' → IsReplied eq hash s (inserts replace AtRoot) done.0 done.1 s'
      replaces_it replace may done s' writes =
          let leads : found (Insert replace) (started (Insert replace) hashed mode initial None).remembered place word ≡ Writing
          (record { place = place; old = word }) = ap
          (λ b. found (Insert b) (started (Insert replace) hashed mode initial None).remembered place word) may
          ∙ ap (λ kind. replaces kind place word) live in
          root_led replace (turns.Here place word) (Writing (record { place = place; old = word })) root leads done.0 done.1 s'
          (written_replied s key value hashed place (started (Insert replace) hashed mode initial None) word root.stands done.0 done.1 s' writes)

      pub occupied : (replace : Bool) → replace ≡ false → (n : ℕ) → n ≡ number_of word
          → IsReplied eq hash s (inserts replace AtRoot) (Occupied n) (Some value) s
      occupied replace never n n_is =
          let leads : found (Insert replace) (started (Insert replace) hashed mode initial None).remembered place word ≡ Ended
          (Occupied (number_of word)) = ap (λ b. found (Insert b) (started (Insert replace) hashed mode initial None).remembered place word) never
          ∙ ap (λ kind. occupies kind place word) live in
          subst (λ z. IsReplied eq hash s (inserts replace AtRoot) (Occupied z) (Some value) s) (sym n_is)
          (root_led replace (turns.Here place word) (Ended (Occupied (number_of word))) root leads (Occupied (number_of word)) (Some value) s
          (record { answers = []; end = inserts replace (Ended (Occupied (number_of word))); drives = (refl, refl); replied = refl; value = refl }))
