use Rattle.dekarino_drawings.proofs.Common.{◌≡◌, ◌∙◌, subst, Configuration, arrows_of, waiting_of}
use Rattle.apex_ports.specs.Lawful.{Answers}
use Rattle.dekarino_drawings.proofs.reading.chart_of.Goals as goal

pub returns : goal.returns
returns c =
    let config = c.args.config in
    let calls = c.in_ok-calls.calls.items in
    let given : c.in_ok-ports.ports.config ≡ config = c.in_ok-ports.ensures.config in
    let same : c.config.result.now ≡ config = c.config.ensures.config ∙ c.serve.ensures.config ∙ given in
    record {
      served = subst (λ (of : Configuration). Answers of c.args.requests.now calls) given c.in_ok-calls.ensures.served;
      arrows = c.in_ok-arrows.ensures.arrows ∙ (λ i. arrows_of (same i) (c.as_slice.ensures.value i));
      waiting = c.in_ok-arrows.ensures.waiting ∙ (λ i. waiting_of (same i) (c.as_slice.ensures.value i));
    }
