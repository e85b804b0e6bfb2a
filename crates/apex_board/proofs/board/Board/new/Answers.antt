use Rattle.apex_board.proofs.Common.{sym, subst, ◌∙◌, Configuration, History}
use Rattle.apex_threads.specs.OnChannels.{ArePublished}
use Rattle.apex_board.specs.Recorded.{AreRecords}
use Rattle.apex_board.specs.Samples.{AreSamples}
use Rattle.apex_board.proofs.board.Board.new.Goals as goal

pub invariant_of-result : goal.invariant_of-result
invariant_of-result g c = record {
  sound = c.in_ok-ports.ensures.sound;
  same = c.in_ok-records.ensures.log ∙ sym c.in_ok-ports.ensures.history;
  recorded = subst (λ (config : Configuration). AreRecords config c.in_ok-records.records) (sym c.in_ok-ports.ensures.config) c.in_ok-records.ensures.recorded;
  sampled = subst (λ (config : Configuration). AreSamples config c.in_ok-ports.ports.history c.in_ok-samples.samples.items) (sym c.in_ok-ports.ensures.config)
      (subst (λ (h : History). AreSamples c.args.config h c.in_ok-samples.samples.items) (sym c.in_ok-ports.ensures.history) c.in_ok-samples.ensures);
  published = subst (λ (config : Configuration). ArePublished config c.in_ok-ports.ports.history c.in_ok-publishers.publishers) c.config-2.ensures.config
      (subst (λ (h : History). ArePublished c.config-2.result.now h c.in_ok-publishers.publishers) (sym c.in_ok-ports.ensures.history) c.in_ok-publishers.ensures);
}
