mod SentLaws
