-- One step behind another.
use Rattle.std.proofs.Common.{◌≡◌, ℕ, ◌≤◌, inl, inr, ⊎_elim, ◌∙◌}
use Rattle.dmn_office.specs.declared.office.Office.{Office}
use Rattle.dmn_outside.specs.Disk.{DiskView}
use Rattle.dmn_registry.proofs.Between.{leads_on, run_on}
use Rattle.dmn_registry.specs.Machine.{Machine}
use Rattle.dmn_make.specs.Asking.{Fails, Goes}

pub goes_on : (t later : ℕ) (before mid after : DiskView) (m n o : Machine) (office next : Office) → t ≤ later → Goes t before mid m n office → Goes later mid after n o next → Goes t before after m o next
goes_on t later before mid after m n o office next le one two = record {
  on = record {
    stands = two.on.stands;
    leads = leads_on m n o one.on.leads two.on.leads;
    run = run_on t later before mid after m n o le one.on.leads two.on.leads one.on.run two.on.run;
  };
  mark = two.mark;
}

-- done, and then stopped: at the machine between, which is the first or the last one, or at the last
pub fails_on : (t later : ℕ) (before mid after : DiskView) (m n o : Machine) (office : Office) → t ≤ later → n ≡ m → Goes t before mid m n office → Fails later mid after n o → Fails t before after m o
fails_on t later before mid after m n o office le same one two = record {
  last = two.last;
  is = ⊎_elim (λ (at : two.last ≡ n). inl (at ∙ same)) (λ at. inr at) two.is;
  leads = leads_on m n two.last one.on.leads two.leads;
  run = run_on t later before mid after m n two.last le one.on.leads two.leads one.on.run two.run;
}
