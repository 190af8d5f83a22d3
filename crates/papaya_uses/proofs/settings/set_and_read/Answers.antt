use Rattle.std.proofs.Common.{◌≡◌, ◌∙◌, option_map, rules, sym}
use Rattle.papaya_uses.proofs.SettingLemmas.{read_alone}
use Rattle.papaya_uses.proofs.settings.set_and_read.Goals as goal

pub returns-clause-read : goal.returns-clause-read
returns-clause-read g c =
    let copied : c.copied.result ≡ option_map (λ v. v.now) c.get.result = search rules in
    record {
      own = c.insert.new.self.history;
      before = c.in_ok-insert.field-0;
      put = c.in_ok-insert.ensures.put;
      made = search rules;
      found = c.get.result;
      answered = c.get.ensures.answered;
      read_is = sym copied;
      alone = λ same. copied ∙ read_alone c.args.setting c.args.value c.args.settings.now.history c.insert.new.self.history c.in_ok-insert.field-0
          c.in_ok-insert.ensures.put c.get.new.self.history c.get.result c.get.ensures.answered same;
    }
