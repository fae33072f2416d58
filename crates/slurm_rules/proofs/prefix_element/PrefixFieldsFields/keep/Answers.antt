use Rattle.slurm_rules.proofs.prefix_element.PrefixFieldsFields.keep.Goals as goal

pub returns : goal.returns
returns c =
    let here = c.in_ok-kind.ensures in (
      here.0,
      here.1,
      λ ms is. record {
        filter = c.only_after.ensures here.0 ms is.filter;
        assertion = c.only_after-2.ensures here.0 ms is.assertion;
        comment = c.text_after.ensures here.0 ms here.2 is.comment;
        prefix = c.in_ok-self.ensures.ok here.0 ms here.2 is.prefix;
        asn = c.number_if_there_after-self.ensures here.0 ms here.2 is.asn;
        max = c.number_if_there_after-self-2.ensures here.0 ms here.2 is.max;
      },
    )
