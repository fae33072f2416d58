use Rattle.validated.proofs.roa.RoaFieldsFields.keep.Goals as goal

pub returns : goal.returns
returns c =
    let here = c.in_ok-kind.ensures in (
      here.0,
      here.1,
      λ ms is. record {
        asn = c.value_after-self.ensures here.0 ms here.2 is.asn;
        prefix = c.in_ok-self.ensures.ok here.0 ms here.2 is.prefix;
        max = c.number_if_there_after-self.ensures here.0 ms here.2 is.max;
        expires = c.value_after-self-2.ensures here.0 ms here.2 is.expires;
      },
    )
