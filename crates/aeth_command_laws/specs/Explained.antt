-- What `explain` tells of refusals, by values that files of the shelf told.
--
--   AreCertificates      the lists of each try are a certificate
--   IsExplained      a job prints a certificate for each refusal of the allocation
--   IsConfirmed      a job tells whether the lists of a text are a certificate for each refusal
-- This project's own.
use Rattle.std.proofs.Common.{ℕ, ◌≡◌, ◌↔◌, List, [], ◌∷◌, Contains, Option, codes, length, map}
use Rattle.aeth_alloc.specs.{Allocation.allocation, Prices.prices_of, Trials.refused_of}
use Rattle.aeth_alloc.specs.{declared.outcome.Refused.Refused}
use Rattle.aeth_answers.specs.Job.{Job, done}
use Rattle.aeth_base.specs.declared.ids.LinkId.{LinkId}
use Rattle.aeth_explain.specs.{Certificate.cuts_of, Cuts.IsCertificate, CutsText.cuts_of_text}
use Rattle.aeth_explain.specs.{CutsText.line_of}
use Rattle.aeth_files.specs.Told.{IsTold}
use Rattle.aeth_group.specs.Members.{groups_of}
use Rattle.aeth_paths.specs.Trials.{TrialData}
use Rattle.aeth_plan.specs.declared.design.Design.{Design}
use Rattle.aeth_explain_commands.specs.Explain.{explanation, refused_tries, verdicts_job}
use Rattle.aeth_command_laws.specs.Told.{IsDesignTold}

-- The lists of each try are a certificate.
abbrev pub AreCertificates : Design → List TrialData → List (List (List LinkId)) → Type 0
AreCertificates design [] blocks = Unit {0}
AreCertificates design (trial ∷ trials) [] = Unit {0}
AreCertificates design (trial ∷ trials) (own ∷ blocks) =
    IsCertificate design.chip (groups_of design.app) trial own × AreCertificates design trials blocks

-- The refusals of the allocation.
abbrev pub refusals_of : Design → List Refused
refusals_of design = (allocation design.chip design.app (groups_of design.app)
    (prices_of design.app.price)).refused

module _ (content : List ℕ → Option (List ℕ)) where
  -- The job prints the shortest cuts of each refusal of the allocation, in the order of turns, and they
  -- are a certificate.
  pub record IsExplained (chip_name app_name : List ℕ) (asked : Job) : Type 0 where
    pub design : Design
    pub told : IsDesignTold content chip_name app_name design
    pub job_is : asked ≡ done (explanation design)
    pub each : map refused_of (refused_tries design) ≡ refusals_of design
    pub certified : (trial : TrialData) → Contains (refused_tries design) trial
        → IsCertificate design.chip (groups_of design.app) trial
        (cuts_of design.chip (groups_of design.app) trial)

  -- The file told lists for each refusal of the allocation, and the job is that they are complete
  -- exactly where the lists of each are a certificate.
  pub record IsConfirmed (chip_name app_name cert_name : List ℕ) (asked : Job) : Type 0 where
    pub design : Design
    pub told : IsDesignTold content chip_name app_name design
    pub blocks : List (List (List LinkId))
    pub cert_told : IsTold content cert_name (cuts_of_text design.chip design.app
        (groups_of design.app) (map line_of (refused_tries design))) blocks
    pub count : length blocks ≡ length (refused_tries design)
    pub job_is : asked ≡ verdicts_job design 2 (refused_tries design) blocks
    pub each : map refused_of (refused_tries design) ≡ refusals_of design
    pub complete : (asked ≡ done (codes "complete\n"))
        ↔ AreCertificates design (refused_tries design) blocks
