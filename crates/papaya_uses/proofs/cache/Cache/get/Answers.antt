use Rattle.std.proofs.Common.{rules, ap, sym, ◌∙◌, Some, None}
use Rattle.papaya_uses.specs.Cache.{Generations, text_of}
use Rattle.papaya_uses.proofs.CacheLemmas.{in_elder, in_young}
use Rattle.papaya_uses.proofs.cache.Cache.get.Goals as goal

pub returns-in-Some : goal.returns-in-Some
returns-in-Some c =
    let cache : Generations = record { young = c.self.inside.young; elder = c.self.inside.elder; limit = c.self.inside.limit } in
    ap Some c.as_str.ensures.value ∙ sym (in_young cache c.args.page c.get.result (c.get.ensures.map c.args.page (search rules)) c.in-Some.text
    c.in-Some.is) ∙ ap (λ cache. text_of cache c.args.page) c.self.view_is

pub returns-in-Some-get : goal.returns-in-Some-get
returns-in-Some-get c =
    let cache : Generations = record { young = c.self.inside.young; elder = c.self.inside.elder; limit = c.self.inside.limit } in
    ap Some c.as_str-in-Some-get.ensures.value
    ∙ sym (in_elder cache c.args.page c.get.result (c.get.ensures.map c.args.page (search rules)) c.in-None.is c.get-in-None.result
    (c.get-in-None.ensures.map c.args.page (search rules)) (Some c.in-Some-get.text) c.in-Some-get.is)
    ∙ ap (λ cache. text_of cache c.args.page) c.self.view_is

pub returns-in-None-get : goal.returns-in-None-get
returns-in-None-get c =
    let cache : Generations = record { young = c.self.inside.young; elder = c.self.inside.elder; limit = c.self.inside.limit } in
    sym (in_elder cache c.args.page c.get.result (c.get.ensures.map c.args.page (search rules)) c.in-None.is c.get-in-None.result
    (c.get-in-None.ensures.map c.args.page (search rules)) None c.in-None-get.is) ∙ ap (λ cache. text_of cache c.args.page) c.self.view_is
