-- The histories that a session has observed in two calls, one after the other, and the change that an addition to a counter made.
use Rattle.std.proofs.Common.{◌≡◌, ◌⊎◌, ℕ, true, false, List, inl, inr, ◌++◌, sym, ap, ◌∙◌, append_assoc, subst}
use Rattle.std.proofs.lemmas.List.{append-nil}
use Rattle.std.specs.Prelude.{String, bytes_eq, string_bytes, string_eq}
use Rattle.std.specs.Borrow.{Bor}
use Rattle.std.specs.declared.alloc.Global.{Global}
use mathlib.Core.List.{IsPrefix}
use Rattle.papaya.specs.Threads.{Change, IsCurrent, IsStored, Makes, Stored}
use Rattle.papaya_uses.specs.Metrics.{BeginsCounter, Seen}

pub seen_on : {A : Type 0} (first second third : List A) → IsPrefix first second → IsPrefix second third → IsPrefix first third
seen_on first second third p q = (p.0 ++ q.0, sym (append_assoc first p.0 q.0) ∙ (ap (λ (w : List _). w ++ q.0) p.1 ∙ q.1))

-- a call that changes nothing leaves the changes that the session has made
pub makes_none : {K C : Type 0} (made made' new : List (Change K (Stored K C))) → Makes false made made' new → made' ≡ made
makes_none made made' new none = none ∙ append-nil made

-- a session that has observed more looks up a counter by a copy of its name, or puts one in
pub begins_or_finds : {C : Type 0} (name : List ℕ) (key : String Global) → string_bytes key ≡ name → (old mid new made made' : Seen C) → IsPrefix old mid
    → (gives : C → Type 0) (v : Bor C) → (IsStored string_eq key mid new gives v × Makes true made made' new)
    ⊎ (IsCurrent string_eq key mid new v × Makes false made made' new) → (made' ≡ made) ⊎ BeginsCounter name old new made made'
begins_or_finds name key key_is old mid new made made' since gives v (inl ((q, put, key_same, given, is), one)) = inr (
  q,
  record {
    before = put.before;
    change = put.change;
    since = seen_on old mid put.before since put.since;
    is = put.is;
    class_is = subst (λ (n : List ℕ). bytes_eq n (string_bytes put.change.class) ≡ true) key_is put.class_is;
    taken_is = put.taken_is;
    put_is = put.put_is;
    kept = put.kept;
  },
  one,
)
begins_or_finds name key key_is old mid new made made' since gives v (inr (current, none)) = inl (makes_none made made' new none)
