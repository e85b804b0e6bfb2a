-- Over a lawful log the picture is what the definitions filter out of the log.
use Rattle.apex_judge.proofs.Common.{◌≡◌, ℕ, ◌||◌, ◌&&◌, Bool, true, false, not, if◌then◌else◌, List, [], ◌∷◌, ◌++◌, Option, Some, None, refl, sym, ap, ◌∙◌, subst, unwrap_or, Call, Moment, Invalid, Configuration, port_of, Port, Entry, History, mode_of, mode_set, restarts, is_created, creates, waiting_on, last_write_on, last_validity_of, validity_read, sample_written, row_of, reply_of, reply_to, Seen, seen}
use Rattle.apex_judge.proofs.Common.{waiting_of, sample_of, IsSound, sample_stays, sample_changes, Subject, Picture, opening, waiting_at, seen_in, reply_in, agrees, waiting_shown, sample_after, with_effects, judged, picture_after, picture_of, subject_of, with_doubt, waiting_after}
use Rattle.std.proofs.lemmas.List.Sums.{fold-append}
use Rattle.apex_types.specs.declared.mode.Mode.{Mode}
use Rattle.apex_types.specs.declared.sample.Sample.{Sample}
use Rattle.apex_types.specs.declared.validity.Validity.{Validity}
use Rattle.apex_ports.specs.LawfulLaws.{along_lawful}
use Rattle.apex_ports.proofs.Appends.{mode_of-append, is_created-append, last_validity_of-append}
use Rattle.apex_ports.proofs.LawfulSteps.{sound-push, sound-nil}
use Rattle.apex_judge.specs.Picture.{sample_at}
use Rattle.apex_judge.proofs.ReplyTests.{agrees_from}
use Rattle.apex_judge.proofs.WaitingLaws.{one_more}

pub picture_of-append : (config : Configuration) (h : History) (e : Entry) → picture_of config (h ++ e ∷ []) ≡ picture_after config (picture_of config h) e
picture_of-append config h e = fold-append (λ picture entry. picture_after config picture entry) opening h (e ∷ [])

-- the picture follows from the history
pub record IsTrueOf (config : Configuration) (h : History) (picture : Picture) : Type 0 where
  pub mode : (p : ℕ) → picture.mode p ≡ mode_of p h
  pub created : (p id : ℕ) → picture.created p id ≡ is_created p id h
  pub last : (p id : ℕ) → picture.last p id ≡ last_validity_of p id h
  pub waiting : (c : ℕ) → picture.waiting c ≡ waiting_on config c h
  pub sample : (c : ℕ) → picture.sample c ≡ last_write_on config c h

-- ---- what is seen in it

same_waiting : (config : Configuration) (h : History) (picture : Picture) → IsTrueOf config h picture → (port : Option Port) → waiting_at picture port ≡ waiting_of config h port
same_waiting config h picture is None = refl
same_waiting config h picture is (Some port) = is.waiting port.channel

same_sample : (config : Configuration) (h : History) (picture : Picture) → IsTrueOf config h picture → (port : Option Port) → sample_at picture port ≡ sample_of config h port
same_sample config h picture is None = refl
same_sample config h picture is (Some port) = is.sample port.channel

pub picture_seen : (config : Configuration) (h : History) (picture : Picture) (p : ℕ) → IsTrueOf config h picture → seen_in config picture p ≡ seen config h p
picture_seen config h picture p is = λ i. record {
  mode = is.mode p i;
  created = λ id. is.created p id i;
  last = λ id. is.last p id i;
  waiting = λ id. same_waiting config h picture is (port_of config p id) i;
  sample = λ id. same_sample config h picture is (port_of config p id) i;
}

picture_reply : (config : Configuration) (h : History) (picture : Picture) (p : ℕ) (at : Moment) (call : Call) → IsTrueOf config h picture → reply_in config picture p at call ≡ reply_to config h p at call
picture_reply config h picture p at call is = ap (λ (s : Seen). reply_of config s p (row_of config s p at call)) (picture_seen config h picture p is)

-- ---- one lawful entry more

written_more : (config : Configuration) (h : History) (c : ℕ) (e : Entry) → sample_after (sample_written config c e) (last_write_on config c h) ≡ last_write_on config c (h ++ e ∷ [])
written_more config h c e = by_write (sample_written config c e) refl
  where
    by_write : (written : Option Sample) → sample_written config c e ≡ written → sample_after written (last_write_on config c h) ≡ last_write_on config c (h ++ e ∷ [])
    by_write None is = sym (sample_stays config h e c is)
    by_write (Some sample) is = sym (sample_changes config h e c sample is)

module _ (config : Configuration) (h : History) (e : Entry) (picture : Picture) where
  effects_tell : IsSound config h → IsSound config (h ++ e ∷ []) → e.reply ≡ reply_to config h e.partition e.at e.call → IsTrueOf config h picture → IsTrueOf config (h ++ e ∷ []) (with_effects config e picture)
  effects_tell sound after lawful is = record {
    mode = λ p. ap (λ (mode : Mode). unwrap_or (mode_set p e) mode) (is.mode p) ∙ sym (mode_of-append p h e);
    created = λ p id. ap (λ (created : Bool). creates p id e || (created && not (restarts p e))) (is.created p id) ∙ sym (is_created-append p id h e);
    last = λ p id. ap (λ (last : Validity). if creates p id e then Invalid else unwrap_or (validity_read p id e) last) (is.last p id) ∙ sym (last_validity_of-append p id h e);
    waiting = λ c. ap (λ (waiting : List (List ℕ)). waiting_after config c waiting e) (is.waiting c) ∙ sym (one_more config h c e.partition e.at e.reply sound e.call after lawful);
    sample = λ c. ap (λ (sample : Option Sample). sample_after (sample_written config c e) sample) (is.sample c) ∙ written_more config h c e;
  }

  doubt_tells : (p : ℕ) (subject : Subject) (doubted : Bool) → IsTrueOf config h picture → IsTrueOf config h (with_doubt p subject doubted picture)
  doubt_tells p subject doubted is = record {
    mode = is.mode;
    created = is.created;
    last = is.last;
    waiting = is.waiting;
    sample = is.sample;
  }

step_tells : (config : Configuration) (h : History) (e : Entry) (picture : Picture) → IsSound config h → IsSound config (h ++ e ∷ []) → e.reply ≡ reply_to config h e.partition e.at e.call
    → IsTrueOf config h picture → IsTrueOf config (h ++ e ∷ []) (picture_after config picture e)
step_tells config h e picture sound after lawful is =
    let standard = reply_in config picture e.partition e.at e.call in
    let subject = subject_of config e standard in
    let agrees_now : agrees standard e.reply ≡ true = agrees_from standard e.reply (lawful ∙ sym (picture_reply config h picture e.partition e.at e.call is)) in
    subst (λ (b : Bool). IsTrueOf config (h ++ e ∷ []) (judged config e standard subject b picture)) (sym agrees_now)
    (doubt_tells config (h ++ e ∷ []) e (with_effects config e picture) e.partition subject false (effects_tell config h e picture sound after lawful is))

opening_is_true : (config : Configuration) → IsTrueOf config [] opening
opening_is_true config = record {
  mode = λ p. refl;
  created = λ p id. refl;
  last = λ p id. refl;
  waiting = λ c. refl;
  sample = λ c. refl;
}

pub lawful_is_true : (config : Configuration) (h : History) → IsSound config h → IsTrueOf config h (picture_of config h)
lawful_is_true config h sound =
    (along_lawful config (λ (g : History). IsSound config g × IsTrueOf config g (picture_of config g))
    (λ g e lawful was.
    let after = sound-push config g e.partition e.at e.call e.reply was.0 lawful.0 lawful.1 in
    (after, subst (IsTrueOf config (g ++ e ∷ [])) (sym (picture_of-append config g e)) (step_tells config g e (picture_of config g) was.0 after lawful.1 was.1)))
    [] h sound.lawful (sound-nil config sound.valid, opening_is_true config)).1

-- a lawful log shows what waits on each channel
pub shows_what_waits : (config : Configuration) (h : History) (c : ℕ) → IsSound config h → waiting_shown config c h ≡ waiting_on config c h
shows_what_waits config h c sound = (lawful_is_true config h sound).waiting c
