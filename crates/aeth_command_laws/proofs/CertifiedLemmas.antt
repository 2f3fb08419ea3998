-- What `explain` prints are certificates, and a text of them is answered to be complete exactly where the
-- lists of each try are one.
use Rattle.std.proofs.Common.{◌≡◌, ◌≢◌, ◌∙◌, ◌+◌, ◌∷◌, [], ℕ, List, Option, Some, Contains, ap}
use Rattle.std.proofs.Common.{arith, length, map, refl, sym, codes, unwrap_or}
use Rattle.std.proofs.lemmas.{List.length-map, Option.same_Some}
use Rattle.aeth_alloc.specs.{Allocation.allocation, Prices.prices_of, Trials.refused_of}
use Rattle.aeth_alloc.proofs.TrialLemmas.{trials-lack, trials-tell}
use Rattle.aeth_answers.specs.{Job.Job, Job.done, Status.refused_status, Task.ends, Task.job_with}
use Rattle.aeth_app.specs.App.{IsApp, IsAppOf}
use Rattle.aeth_base.specs.declared.ids.LinkId.{LinkId}
use Rattle.aeth_chip.specs.Chip.{IsChip}
use Rattle.aeth_explain.specs.Certificate.{cuts_of}
use Rattle.aeth_explain.specs.Cuts.{IsCertificate}
use Rattle.aeth_explain.specs.CutsText.{cuts_of_text, line_of}
use Rattle.aeth_explain.specs.Verdict.{verdict_of}
use Rattle.aeth_explain.specs.declared.verdict.CutVerdict.{CutVerdict}
use Rattle.aeth_explain.specs.declared.verdict.CutVerdict.TheVariants.{Complete, NotDead, Open}
use Rattle.aeth_explain.proofs.{ReadLemmas.read-count, RefusalLemmas.certificate-exists}
use Rattle.aeth_explain.proofs.{VerdictLemmas.verdict-complete}
use Rattle.aeth_files.proofs.ToldLemmas.{file_kept}
use Rattle.aeth_group.specs.Members.{groups_of}
use Rattle.aeth_paths.specs.Trials.{TrialData}
use Rattle.aeth_plan.specs.declared.design.Design.{Design}
use Rattle.aeth_text.specs.Order.{line_after}
use Rattle.aeth_explain_commands.specs.Explain.{cert_task, confirm_task, explain_task, explanation}
use Rattle.aeth_explain_commands.specs.Explain.{flaw_of, refused_tries, verdicts_job}
use Rattle.aeth_command_laws.specs.Explained.{AreCertificates, IsConfirmed, IsExplained}
use Rattle.aeth_command_laws.specs.Explained.{refusals_of}
use Rattle.aeth_command_laws.proofs.ToldLemmas.{FilesTell, design_kept}

module _ (design : Design) (is_chip : IsChip design.chip) where
  -- A verdict, and what is answered then.
  by-verdict : (line : ℕ) (trial : TrialData) (own : List (List LinkId)) (later : Job)
      (verdict : CutVerdict)
      → verdict_of design.chip (groups_of design.app) trial own ≡ verdict
      → unwrap_or (flaw_of design.app line trial verdict) later ≡ done (codes "complete\n")
      → (verdict_of design.chip (groups_of design.app) trial own ≡ Complete)
      × (later ≡ done (codes "complete\n"))
  by-verdict line trial own later Complete is says = (is, says)
  by-verdict line trial own later (NotDead cut) is says =
      absurd (omega (arith, ap (λ (job : Job). job.status) says))
  by-verdict line trial own later (Open path) is says =
      absurd (omega (arith, ap (λ (job : Job). job.status) says))

  -- Where the answer is that all are complete, each is a certificate.
  complete-told : (line : ℕ) (trials : List TrialData) (blocks : List (List (List LinkId)))
      → length blocks ≡ length trials
      → verdicts_job design line trials blocks ≡ done (codes "complete\n")
      → AreCertificates design trials blocks
  complete-told line [] [] same says = tt
  complete-told line [] (own ∷ blocks) same says = absurd (omega (arith, same))
  complete-told line (trial ∷ trials) [] same says = absurd (omega (arith, same))
  complete-told line (trial ∷ trials) (own ∷ blocks) same says =
      let both = by-verdict line trial own
      (verdicts_job design (line_after line (1 + length own)) trials blocks)
      (verdict_of design.chip (groups_of design.app) trial own) refl says in (
        (verdict-complete design.chip (groups_of design.app) trial is_chip own).0 both.0,
        complete-told (line_after line (1 + length own)) trials blocks (omega (arith, same)) both.1,
      )

  -- Where each is one, that is the answer.
  tell-complete : (line : ℕ) (trials : List TrialData) (blocks : List (List (List LinkId)))
      → AreCertificates design trials blocks
      → verdicts_job design line trials blocks ≡ done (codes "complete\n")
  tell-complete line [] blocks are = refl
  tell-complete line (trial ∷ trials) [] are = refl
  tell-complete line (trial ∷ trials) (own ∷ blocks) are =
      let is = (verdict-complete design.chip (groups_of design.app) trial is_chip own).1 are.0 in
      ap (λ (verdict : CutVerdict). unwrap_or (flaw_of design.app line trial verdict)
      (verdicts_job design (line_after line (1 + length own)) trials blocks)) is
      ∙ tell-complete (line_after line (1 + length own)) trials blocks are.1

  -- The shortest cuts of each try are a certificate.
  certified : IsApp design.app → IsAppOf design.chip design.app → (trial : TrialData)
      → Contains (refused_tries design) trial
      → IsCertificate design.chip (groups_of design.app) trial
      (cuts_of design.chip (groups_of design.app) trial)
  certified is_app of_chip trial has =
      certificate-exists design.chip (groups_of design.app) trial is_chip (λ some. trials-lack
      (record { chip = design.chip; app = design.app; prices = prices_of design.app.price })
      is_chip is_app of_chip trial has some.0 some.1)

  -- The tries tell of the refusals.
  tries-tell : IsApp design.app → IsAppOf design.chip design.app
      → map refused_of (refused_tries design) ≡ refusals_of design
  unfolding allocation
  tries-tell is_app of_chip = trials-tell
      (record { chip = design.chip; app = design.app; prices = prices_of design.app.price })
      is_chip is_app of_chip

module _ (tell : FilesTell) (content : List ℕ → Option (List ℕ)) (asked : Job)
    (kept : asked.status ≢ refused_status) where
  -- A job of `explain` that refuses no file prints certificates.
  pub explained : (chip_name app_name : List ℕ)
      → job_with content (explain_task chip_name app_name) ≡ Some asked
      → IsExplained content chip_name app_name asked
  explained chip_name app_name is =
      let (design, told, at_end) =
      design_kept tell content asked kept chip_name app_name (λ design. ends (done (explanation design))) is in
      record {
        design = design;
        told = told;
        job_is = sym (same_Some (done (explanation design)) asked at_end);
        each = tries-tell design told.chip_is told.app_is told.of_chip;
        certified = certified design told.chip_is told.app_is told.of_chip;
      }

  -- One with a text of certificates tells whether they are.
  pub confirmed : (chip_name app_name cert_name : List ℕ)
      → job_with content (confirm_task chip_name app_name cert_name) ≡ Some asked
      → IsConfirmed content chip_name app_name cert_name asked
  confirmed chip_name app_name cert_name is =
      let (design, told, on_cert) =
      design_kept tell content asked kept chip_name app_name (λ design. cert_task design cert_name) is in
      let tries = refused_tries design in
      let (blocks, cert_told, at_end) =
      file_kept content asked kept (codes "cert") (cuts_of_text design.chip design.app
      (groups_of design.app) (map line_of tries)) cert_name _ on_cert in
      let job_is : asked ≡ verdicts_job design 2 tries blocks =
      sym (same_Some (verdicts_job design 2 tries blocks) asked at_end) in
      let count : length blocks ≡ length tries =
      read-count design.chip design.app (groups_of design.app) (map line_of tries) cert_told.bytes
      blocks cert_told.told ∙ length-map tries line_of in
      record {
        design = design;
        told = told;
        blocks = blocks;
        cert_told = cert_told;
        count = count;
        job_is = job_is;
        each = tries-tell design told.chip_is told.app_is told.of_chip;
        complete = (
          (λ says. complete-told design told.chip_is 2 tries blocks count (sym job_is ∙ says)),
          (λ are. job_is ∙ tell-complete design told.chip_is 2 tries blocks are),
        );
      }
