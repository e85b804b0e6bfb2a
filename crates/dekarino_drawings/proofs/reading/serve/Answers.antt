use Rattle.dekarino_drawings.proofs.Common.{◌≡◌, take, ap, sym, ◌∙◌, subst, Configuration, History, requests_of, take_all}
use Rattle.apex_ports.specs.Lawful.{IsLawful}
use Rattle.dekarino_drawings.proofs.reading.serve.Goals as goal

pub returns-clause-served : goal.returns-clause-served
returns-clause-served c =
    let was = c.loop-request.invariant in
    let lawful : IsLawful c.args.ports.now.config c.loop-request.ports.history = subst (λ (config : Configuration). IsLawful config c.loop-request.ports.history) was.config was.sound.lawful in
    let all : take c.loop-request.request-index c.args.requests.now ≡ c.args.requests.now = take_all c.loop-request.request-index c.args.requests.now c.loop-request-test.false in
    (subst (λ (history : History). IsLawful c.args.ports.now.config history) (sym was.kept) lawful, ap requests_of was.kept ∙ was.requests ∙ all)
