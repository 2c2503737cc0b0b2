mod RowExamples
