-- A table that is about to be linked has as many words for chunks as its maker asked for.
use Rattle.std.proofs.Common.{◌≡◌, ℕ, ◌≤◌, Option, None, Some, refl, sym, ◌∙◌, ap, subst}
use Rattle.papaya_call.specs.declared.copy.link.Link.{Link}
use Rattle.papaya_call.specs.declared.copy.link.Link.TheVariants.{Linking}
use Rattle.papaya_call.specs.declared.chain.resizer.ResizerState.{ResizerState as Stage}
use Rattle.papaya_call.specs.declared.chain.resizer.ResizerState.TheVariants as stages
use Rattle.papaya_call.specs.declared.chain.scanner.ScannerState.{ScannerState}
use Rattle.papaya_call.specs.declared.chain.scanner.ScannerState.TheVariants.{Copying}
use Rattle.papaya_words_law.specs.Exchange.{Setting}
use Rattle.papaya_call_law.specs.Copier.{HasWords, link_in_copying}
use Rattle.papaya_call_law.specs.Resizers.{HasLink, link_of}
use Rattle.papaya_call_law.specs.Scans.{link_in_scan}
use Rattle.papaya_core_store.specs.Store.{StoreState}
use Rattle.papaya_core_store.specs.Tables.{table_of}
use Rattle.papaya_core_timeline.specs.Kept.{IsMadeFor, IsScanLink, chunks_in}

module _ {K P K' V S : Type 0} (g : Setting K P) (store : StoreState K' V S)
    (chunks_are : (t : ℕ) → g.chunks t ≡ chunks_in (table_of store.words.tables t)) where
  -- for a call, or a copy
  pub link_words : (o : Option Link) → ((behind t chunks : ℕ) → o ≡ Some (Linking behind t chunks) → IsMadeFor store t chunks) → HasWords g o
  link_words None made = tt
  link_words (Some (Linking behind t chunks)) made = let m = made behind t chunks refl in subst (λ n. chunks ≤ n) (sym (chunks_are t ∙ ap chunks_in m.1)) m.2
  link_words (Some other) made = tt

  -- for a call that resizes the map
  pub stage_words : (stage : Stage) → ((behind t chunks : ℕ) → HasLink stage (Linking behind t chunks) → IsMadeFor store t chunks) → HasWords g (link_of stage)
  stage_words (stages.Linking link) made = link_words (Some link)
      (λ behind t chunks e. made behind t chunks (let f : link ≡ Linking behind t chunks = cc e in f))
  stage_words (stages.Copying from copying) made = link_words (link_in_copying copying) made
  stage_words other made = tt

  -- and for one that scans a table
  pub scan_words : (state : ScannerState) → ((behind t chunks : ℕ) → IsScanLink state (Linking behind t chunks) → IsMadeFor store t chunks)
      → HasWords g (link_in_scan state)
  scan_words (Copying stage) made = stage_words stage made
  scan_words other made = tt
