use Rattle.catalog_handles.proofs.catalogs.Catalogs.answered.Goals as goal

pub returns-in-Get-clause-answers : goal.returns-in-Get-clause-answers
returns-in-Get-clause-answers g c = λ H s. rw c.in-Get.is (c.get.ensures H c.args.who s)

pub returns-in-Close-clause-answers : goal.returns-in-Close-clause-answers
returns-in-Close-clause-answers g c = λ H s. rw c.in-Close.is (c.close.ensures.answers H c.args.who s)

pub returns-in-Close-clause-stands : goal.returns-in-Close-clause-stands
returns-in-Close-clause-stands g c = λ H s. rw c.in-Close.is (c.close.ensures.stands H c.args.who c.requires s)
