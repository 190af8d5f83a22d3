-- The making of a table fails only if the answer to its ask is a failure, or if the table would be
-- too long.
use Rattle.std.proofs.Common.{◌≡◌, ◌⊎◌, inl, inr, ℕ, ◌<◌, ◌^◌, Bool, true, false, nat_le, cond, None, Some, refl, sym, ap, ◌∙◌, leb-false}
use Rattle.papaya_words.specs.Chunks.{chunk_count, chunk_len}
use Rattle.papaya_words.specs.Table.{length_after}
use Rattle.papaya_words.specs.declared.refused.Refused.{Refused}
use Rattle.papaya_words.specs.declared.refused.Refused.TheVariants.{Capacity}
use Rattle.papaya_words.specs.declared.resize_mode.ResizeMode.{ResizeMode}
use Rattle.papaya_call.specs.declared.ask.Answer.{Answer as Call_answer}
use Rattle.papaya_call.specs.declared.ask.Answer.TheVariants.{Word as Word_read, Exchanged, Found as Found_instead, Yes, Refused as Was_refused, Ok as Ok_done}
use Rattle.papaya_call.specs.declared.copy_ask.CopyAsk.TheVariants.{MakeTable}
use Rattle.papaya_call.specs.declared.copy.copying.Copying.{Copying}
use Rattle.papaya_call.specs.declared.copy.link.Link.{Link}
use Rattle.papaya_call.specs.declared.copy.link.Link.TheVariants as links
use Rattle.papaya_call.specs.declared.copy.link.Linked.TheVariants as linked
use Rattle.papaya_call.specs.Link as making
use Rattle.papaya_call.specs.Link.{link_ask}
use Rattle.papaya_call.specs.declared.chain.ask.Answer.{Answer}
use Rattle.papaya_call.specs.declared.chain.ask.Answer.TheVariants as answers
use Rattle.papaya_call.specs.ChainMachine.{copying_after, link_after}
use Rattle.papaya_call_law.specs.Copier.{link_in_copying}
use Rattle.papaya_call_law.proofs.CopyRefusals.{copying_count_as, copying_exchanged_none}
use Rattle.papaya_call_law.proofs.CopyRefusals.{copying_found_none, copying_ok_none}
use Rattle.papaya_call_law.proofs.CopyRefusals.{copying_refused_as, copying_word_none}
use Rattle.papaya_call_law.proofs.CopyRefusals.{copying_yes_none, of_copied, of_link, of_linked}

-- the copy of the root fails when the making of its table does
pub copying_ends : (goes : Copying) (mode : ResizeMode) (initial number : ℕ) (answer : Answer) (refused : Refused)
    → of_copied (copying_after goes mode initial number answer) ≡ Some refused
    → of_link (λ made. link_after made mode initial answer) (link_in_copying goes) ≡ Some refused
copying_ends goes mode initial number (answers.Call (Word_read word)) refused e = absurd (cc (copying_word_none goes mode word, e))
copying_ends goes mode initial number (answers.Call Exchanged) refused e = absurd (cc (copying_exchanged_none goes mode, e))
copying_ends goes mode initial number (answers.Call (Found_instead word)) refused e = absurd (cc (copying_found_none goes mode word, e))
copying_ends goes mode initial number (answers.Call (Yes same)) refused e = absurd (cc (copying_yes_none goes mode same, e))
copying_ends goes mode initial number (answers.Call Ok_done) refused e = absurd (cc (copying_ok_none goes mode, e))
copying_ends goes mode initial number (answers.Call (Was_refused other)) refused e = sym (copying_refused_as goes mode other) ∙ e
copying_ends goes mode initial number (answers.Count count) refused e = sym (copying_count_as goes mode count initial) ∙ e
copying_ends goes mode initial number answer refused e = absurd cc

-- linking never fails: the making of a table fails only while it counts, or makes the table
linking_none : (before table chunks : ℕ) (mode : ResizeMode) (initial : ℕ) (answer : Answer)
    → of_linked (link_after (links.Linking before table chunks) mode initial answer) ≡ None
linking_none before table chunks mode initial (answers.Call Exchanged) = refl
linking_none before table chunks mode initial (answers.Call told) = refl
linking_none before table chunks mode initial (answers.Hash hash) = refl
linking_none before table chunks mode initial (answers.Count count) = refl

sizing_none : (before copied : ℕ) (unfit : Bool) (mode : ResizeMode) (initial : ℕ) (answer : Answer)
    → of_linked (link_after (links.Sizing before copied unfit) mode initial answer) ≡ None
sizing_none before copied unfit mode initial (answers.Call Exchanged) = refl
sizing_none before copied unfit mode initial (answers.Call told) = refl
sizing_none before copied unfit mode initial (answers.Hash hash) = refl
sizing_none before copied unfit mode initial (answers.Count count) = refl

measuring_none : (before copied : ℕ) (unfit : Bool) (len : ℕ) (mode : ResizeMode) (initial : ℕ) (answer : Answer)
    → of_linked (link_after (links.Measuring before copied unfit len) mode initial answer) ≡ None
measuring_none before copied unfit len mode initial (answers.Call Exchanged) = refl
measuring_none before copied unfit len mode initial (answers.Call told) = refl
measuring_none before copied unfit len mode initial (answers.Hash hash) = refl
measuring_none before copied unfit len mode initial (answers.Count count) = refl

counting_none : (before slots : ℕ) (unfit : Bool) (copied : ℕ) (mode : ResizeMode) (initial : ℕ) (told : Call_answer)
    → of_linked (link_after (links.Counting before unfit slots copied) mode initial (answers.Call told)) ≡ None
counting_none before slots unfit copied mode initial Exchanged = refl
counting_none before slots unfit copied mode initial (Found_instead word) = refl
counting_none before slots unfit copied mode initial told = refl

-- a table was to be made, and making it failed
pub record HasNotMade (made : Link) (answer : Answer) (refused : Refused) : Type 0 where
  pub slots : ℕ
  pub limit : ℕ
  pub chunks : ℕ
  pub asks : link_ask made ≡ MakeTable slots limit chunks
  pub is : answer ≡ answers.Call (Was_refused refused)

-- a count was received, and the next table would be longer than a table may be
pub record HasCountedTooMany (made : Link) (initial : ℕ) (answer : Answer) (refused : Refused) : Type 0 where
  pub capacity : refused ≡ Capacity
  pub behind : ℕ
  pub unfit : Bool
  pub slots : ℕ
  pub copied : ℕ
  pub link : made ≡ links.Counting behind unfit slots copied
  pub count : ℕ
  pub is : answer ≡ answers.Count count
  pub long : 2 ^ 32 < length_after slots count initial unfit

module _ (initial : ℕ) (refused : Refused) where
  -- a count fails if the next length is past all lengths
  too_long : (before slots count : ℕ) (unfit : Bool) (chunks : ℕ)
      → of_linked (making.counted before slots unfit chunks (length_after slots count initial unfit)) ≡ Some refused → (refused ≡ Capacity)
      × (2 ^ 32 < length_after slots count initial unfit)
  too_long before slots count unfit chunks e = by_length (nat_le (length_after slots count initial unfit) (2 ^ 32)) refl e
    where
      by_length : (fits : Bool) → nat_le (length_after slots count initial unfit) (2 ^ 32) ≡ fits
          → of_linked (cond fits (linked.On (making.making before slots unfit chunks (length_after slots count initial unfit)))
          (linked.Refused Capacity)) ≡ Some refused
          → (refused ≡ Capacity) × (2 ^ 32 < length_after slots count initial unfit)
      by_length true is e = absurd cc
      by_length false is e = let same : Capacity ≡ refused = cc e in (sym same, leb-false (length_after slots count initial unfit) (2 ^ 32) is)

-- the making of a table fails by an answer, or by a count
pub link_why : (made : Link) (mode : ResizeMode) (initial : ℕ) (answer : Answer) (refused : Refused)
    → of_linked (link_after made mode initial answer) ≡ Some refused → HasNotMade made answer refused ⊎ HasCountedTooMany made initial answer refused
link_why (links.Making before slots limit chunks) mode initial (answers.Call (Was_refused other)) refused e =
    let same : other ≡ refused = cc e in
    inl (record { slots = slots; limit = limit; chunks = chunks; asks = refl; is = ap (λ r. answers.Call (Was_refused r)) same })
link_why (links.Counting before unfit slots copied) mode initial (answers.Count count) refused e =
    let long = too_long initial refused before slots count unfit (chunk_count copied (chunk_len mode)) e in
    inr (record { capacity = long.0; behind = before; unfit = unfit; slots = slots; copied = copied; link = refl; count = count; is = refl; long = long.1 })
link_why (links.Linking before table chunks) mode initial answer refused e = absurd (cc (linking_none before table chunks mode initial answer, e))
link_why (links.Sizing before copied unfit) mode initial answer refused e = absurd (cc (sizing_none before copied unfit mode initial answer, e))
link_why (links.Measuring before copied unfit len) mode initial answer refused e = absurd (cc (measuring_none before copied unfit len mode initial answer, e))
link_why (links.Making before slots limit chunks) mode initial answer refused e = absurd cc
link_why (links.Counting before unfit slots copied) mode initial (answers.Call told) refused e = absurd
    (cc (counting_none before slots unfit copied mode initial told, e))
link_why (links.Counting before unfit slots copied) mode initial (answers.Hash hash) refused e = absurd cc
